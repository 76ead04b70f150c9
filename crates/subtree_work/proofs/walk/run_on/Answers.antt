use Rattle.std.specs.Prelude.{OnErr, IsErrOf}
use Rattle.std.proofs.Common.{ap, refl, sym, subst, ◌∙◌, Err}
use Rattle.std.proofs.lemmas.Result.{err_from_is_err_and}
use Rattle.poly_model.specs.declared.listed.Count.{Count}
use Rattle.reverse_step.specs.Walks.{Walk}
use Rattle.work_core.specs.declared.stops.WorkStop.TheVariants.{Overflow}
use Rattle.work_core.specs.ReplyLines.{IsTornRun}
use Rattle.work_core.specs.Searches.{by_subtrees}
use Rattle.subtree_work.specs.declared.progress.Progress.{Progress}
use Rattle.subtree_work.proofs.Running.{Running, begins}
use Rattle.subtree_work.proofs.Ending.{torn_first}
use Rattle.subtree_work.proofs.Stepping.{rises_at_stop, takes_on, takes_last, torn_at, cut_at, search_at_stop, search_at_end, search_from, search_again}
use Rattle.subtree_work.proofs.walk.run_on.Goals as goal

-- ---- at the first cobasis
pub returns-in_err-count-clause-torn : goal.returns-in_err-count-clause-torn
returns-in_err-count-clause-torn g c p file =
    let s = c.args.search.now in
    let q = err_from_is_err_and c.from_residual.result c.from_residual.ensures.1 in
    subst (λ r. OnErr r (IsTornRun (by_subtrees p s.walker.root) s.walker.job (g.S.Sink.written c.args.out.now)
    (g.S.Sink.written c.visit.new.out))) (sym q.1)
    (torn_first p s.sys.now s.rays c.args.budget s.walker s.vector.items (c.requires.search.each p file) c.requires.start
    (g.S.Sink.written c.args.out.now) (g.S.Sink.written c.visit.new.out) c.in_err-count.ensures.fails)

pub returns-in_err-count-clause-search : goal.returns-in_err-count-clause-search
returns-in_err-count-clause-search g c =
    let s = c.args.search.now in
    let t = c.visit.new.search in
    search_again s.sys.now t.sys.now s.rays t.rays s.walker t.walker s.vector.items t.vector.items c.requires.search
    c.in_err-count.ensures.sys c.in_err-count.ensures.rays c.in_err-count.ensures.walker c.in_err-count.ensures.width

pub steps-init : goal.steps-init
steps-init g c =
    let s = c.args.search.now in
    let none : Count = record { rows = 0; jobs = 0; bases = 0 } in
    let so_far : Progress = record { depth = 0; count = c.in_ok-count.count } in
    record {
      going = λ p file. subst (λ (w : Walk). Running p s.sys.now s.rays c.args.budget s.walker w
          c.visit.new.search.vector.items c.full-left.result so_far (g.S.Sink.written c.args.out.now)
          (g.S.Sink.written c.visit.new.out)) (sym c.in_ok-count.ensures.walker)
          (begins p s.sys.now s.rays c.args.budget s.walker s.vector.items (c.requires.search.each p file) c.requires.start
          c.full-left.result c.full-left.ensures (g.S.Sink.written c.args.out.now) (g.S.Sink.written c.visit.new.out) none
          so_far refl refl refl refl c.in_ok-count.ensures.visited c.requires.budget.some c.visit.new.search.vector.items
          c.in_ok-count.ensures.width);
      sys = c.in_ok-count.ensures.sys;
      rays = c.in_ok-count.ensures.rays;
      same = c.in_ok-count.ensures.cause.same (λ e. cc);
    }

-- ---- a step
pub step-requires-clause-search : goal.step-requires-clause-search
step-requires-clause-search g c =
    let s = c.args.search.now in
    let t = c.steps.search in
    search_from s.sys.now t.sys.now s.rays t.rays t.walker t.vector.items c.requires.search.file
    (λ p file. (c.steps.invariant.going p file).search) c.steps.invariant.sys c.steps.invariant.rays

-- ---- where a step stops
pub returns-in_err-visit-clause-overflow : goal.returns-in_err-visit-clause-overflow
returns-in_err-visit-clause-overflow g c o h p file =
    let s = c.args.search.now in
    let q = err_from_is_err_and c.from_residual-in_err-visit.result c.from_residual-in_err-visit.ensures.1 in
    cut_at p s.sys.now s.rays c.args.budget s.walker c.steps.search.walker c.steps.search.vector.items c.steps.left
    c.lower.new.self
    c.lower.ensures c.steps.so_far (g.S.Sink.written c.args.out.now) (g.S.Sink.written c.steps.out)
    (c.steps.invariant.going p file) c.steps.search.sys.now c.steps.invariant.sys
    c.step.new.search.walker c.step.new.search.vector.items c.in_err-visit.ensures.width c.steps.so_far
    (g.S.Sink.written c.step.new.out) c.in_err-visit.field-0.0 c.in_err-visit.ensures.stops o
    (subst (λ r. IsErrOf r (Overflow o)) (q.1 ∙ ap (λ e. Err e) q.2) h)

pub returns-in_err-visit-clause-torn : goal.returns-in_err-visit-clause-torn
returns-in_err-visit-clause-torn g c p file =
    let s = c.args.search.now in
    let q = err_from_is_err_and c.from_residual-in_err-visit.result c.from_residual-in_err-visit.ensures.1 in
    subst (λ r. OnErr r (IsTornRun (by_subtrees p s.walker.root) s.walker.job (g.S.Sink.written c.args.out.now)
    (g.S.Sink.written c.step.new.out))) (sym q.1)
    (torn_at p s.sys.now s.rays c.args.budget s.walker c.steps.search.walker c.steps.search.vector.items c.steps.left
    c.lower.new.self
    c.lower.ensures c.steps.so_far (g.S.Sink.written c.args.out.now) (g.S.Sink.written c.steps.out)
    (c.steps.invariant.going p file) c.steps.search.sys.now c.steps.invariant.sys
    c.step.new.search.walker c.step.new.search.vector.items c.in_err-visit.ensures.width c.steps.so_far
    (g.S.Sink.written c.step.new.out) c.in_err-visit.field-0.0 c.in_err-visit.ensures.stops)

pub returns-in_err-visit-clause-search : goal.returns-in_err-visit-clause-search
returns-in_err-visit-clause-search g c =
    let s = c.args.search.now in
    let t = c.step.new.search in
    search_from s.sys.now t.sys.now s.rays t.rays t.walker t.vector.items c.requires.search.file
    (λ p file. search_at_stop p s.sys.now s.rays c.args.budget s.walker c.steps.search.walker c.steps.search.vector.items
    c.steps.left c.lower.new.self
    c.lower.ensures c.steps.so_far (g.S.Sink.written c.args.out.now) (g.S.Sink.written c.steps.out)
    (c.steps.invariant.going p file) c.steps.search.sys.now c.steps.invariant.sys t.walker t.vector.items
    c.in_err-visit.ensures.width c.steps.so_far
    (g.S.Sink.written c.step.new.out) c.in_err-visit.field-0.0 c.in_err-visit.ensures.stops)
    (c.in_err-visit.ensures.sys ∙ c.steps.invariant.sys) (c.in_err-visit.ensures.rays ∙ c.steps.invariant.rays)

pub returns-in_err-visit-clause-cause : goal.returns-in_err-visit-clause-cause
returns-in_err-visit-clause-cause g c =
    let r = c.from_residual-in_err-visit in
    let q = err_from_is_err_and r.result r.ensures.1 in
    rises_at_stop (g.S.Sink.faults c.args.out.now) (g.S.Sink.faults c.steps.out) (g.S.Sink.faults c.step.new.out) r.result
    c.in_err-visit.field-0.0 c.steps.invariant.same (q.1 ∙ ap (λ e. Err e) q.2) c.in_err-visit.ensures.cause

-- ---- the end
pub returns-then-is_end-clause-whole : goal.returns-then-is_end-clause-whole
returns-then-is_end-clause-whole g c p file =
    let s = c.args.search.now in
    takes_last p s.sys.now s.rays c.args.budget s.walker c.steps.search.walker c.steps.search.vector.items c.steps.left
    c.lower.new.self
    c.lower.ensures c.steps.so_far (g.S.Sink.written c.args.out.now) (g.S.Sink.written c.steps.out)
    (c.steps.invariant.going p file) c.steps.search.sys.now c.steps.invariant.sys
    c.step.new.search.walker c.step.new.search.vector.items c.in_ok-visit.ensures.width c.in_ok-visit.next
    (g.S.Sink.written c.step.new.out) c.requires.budget c.in_ok-visit.visit (c.is_end.ensures.0 c.if-is_end.true) c.in_ok-visit.ensures.takes

pub returns-then-is_end-clause-search : goal.returns-then-is_end-clause-search
returns-then-is_end-clause-search g c =
    let s = c.args.search.now in
    let t = c.step.new.search in
    search_from s.sys.now t.sys.now s.rays t.rays t.walker t.vector.items c.requires.search.file
    (λ p file. search_at_end p s.sys.now s.rays c.args.budget s.walker c.steps.search.walker c.steps.search.vector.items
    c.steps.left c.lower.new.self
    c.lower.ensures c.steps.so_far (g.S.Sink.written c.args.out.now) (g.S.Sink.written c.steps.out)
    (c.steps.invariant.going p file) c.steps.search.sys.now c.steps.invariant.sys t.walker t.vector.items
    c.in_ok-visit.ensures.width c.in_ok-visit.next
    (g.S.Sink.written c.step.new.out) c.in_ok-visit.visit (c.is_end.ensures.0 c.if-is_end.true) c.in_ok-visit.ensures.takes)
    (c.in_ok-visit.ensures.sys ∙ c.steps.invariant.sys) (c.in_ok-visit.ensures.rays ∙ c.steps.invariant.rays)

-- ---- one step further
pub steps-preserved : goal.steps-preserved
steps-preserved g c =
    let s = c.args.search.now in
    record {
      going = λ p file. takes_on p s.sys.now s.rays c.args.budget s.walker c.steps.search.walker
          c.steps.search.vector.items c.steps.left c.lower.new.self
          c.lower.ensures c.steps.so_far (g.S.Sink.written c.args.out.now) (g.S.Sink.written c.steps.out)
          (c.steps.invariant.going p file) c.steps.search.sys.now c.steps.invariant.sys c.step.new.search.walker
          c.step.new.search.vector.items c.in_ok-visit.ensures.width c.in_ok-visit.next (g.S.Sink.written c.step.new.out)
          c.in_ok-visit.visit (λ e. let t = c.is_end.ensures.1 e in let f = c.if-is_end.false in cc)
          c.in_ok-visit.ensures.takes;
      sys = c.in_ok-visit.ensures.sys ∙ c.steps.invariant.sys;
      rays = c.in_ok-visit.ensures.rays ∙ c.steps.invariant.rays;
      same = c.in_ok-visit.ensures.cause.same (λ e. cc) ∙ c.steps.invariant.same;
    }
