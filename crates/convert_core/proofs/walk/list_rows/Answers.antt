use Rattle.std.specs.Result.{IsErrOf}
use Rattle.std.proofs.Common.{Err, refl, sym, subst, ◌∙◌, arith}
use Rattle.poly_model.specs.Systems.{System}
use Rattle.poly_io.specs.Causes.{RisesAt}
use Rattle.reverse_step.specs.Walks.{Walk}
use Rattle.convert_core.specs.declared.walk.Ended.TheVariants.{Overflow, WriteFault}
use Rattle.row_printer.specs.declared.shown.Shown.{Shown}
use Rattle.convert_core.specs.Listed.{WritesStep, EndsStep, ended_by}
use Rattle.convert_core.proofs.Searching.{steps_at_start, takes_steps}
use Rattle.convert_core.proofs.Steps.{Going, HasEnded, begins, goes, ends}
use Rattle.convert_core.proofs.Stops.{stops_first, stops_rows, stops_cause, stops_due}
use Rattle.convert_core.proofs.walk.list_rows.Given.{Over}
use Rattle.convert_core.proofs.walk.list_rows.Goals.{After-ended_by}
use Rattle.convert_core.proofs.walk.list_rows.Goals as goal

-- ---- at the root
pub returns-in-Err-clause-rows : goal.returns-in-Err-clause-rows
returns-in-Err-clause-rows g c =
    let search = c.args.search.now in
    stops_first g.S.Sink search.poly.now search.cone search.rays search.walker search.vector.items c.requires.search
    c.args.shown c.requires.kind c.args.out.now c.show.new.out c.in-Err.ensures.shows (Err WriteFault) refl

pub returns-in-Err-clause-cost : goal.returns-in-Err-clause-cost
returns-in-Err-clause-cost g c =
    let search = c.args.search.now in
    steps_at_start search.poly.now search.cone search.rays search.walker search.vector.items c.args.steps.now
    c.requires.search c.requires.at_root

pub steps-init : goal.steps-init
steps-init g c =
    let search = c.args.search.now in
    record {
      going = subst (λ (w : Walk). Going g.S.Sink search.poly.now search.cone search.rays search.walker w
          c.show.new.search.vector.items c.full-left.result c.args.steps.now c.args.steps.now c.args.shown c.args.out.now
          c.in-Ok.shown c.show.new.out) (sym c.in-Ok.ensures.walker)
          (begins g.S.Sink search.poly.now search.cone search.rays search.walker search.vector.items c.full-left.result
          c.args.steps.now c.requires.search c.requires.at_root c.full-left.ensures c.args.shown c.requires.kind
          c.args.out.now c.in-Ok.shown c.show.new.out c.in-Ok.ensures.shows c.show.new.search.vector.items
          c.in-Ok.ensures.width);
      poly = c.in-Ok.ensures.poly;
      cone = c.in-Ok.ensures.cone;
      rays = c.in-Ok.ensures.rays;
    }

-- ---- where a step stops
stops : (g : Over) (c : After-ended_by g) → EndsStep g.S.Sink.written g.S.Sink.faults c.args.search.now.cone c.steps.search.walker
    c.step.new.search.walker c.steps.shown c.steps.out c.step.new.out (ended_by c.step.new.search.walker.dict c.in-Err-step.stop)
stops g c =
    subst (λ (s : System). EndsStep g.S.Sink.written g.S.Sink.faults s c.steps.search.walker c.step.new.search.walker
    c.steps.shown c.steps.out c.step.new.out (ended_by c.step.new.search.walker.dict c.in-Err-step.stop)) c.steps.invariant.cone
    c.in-Err-step.ensures.ends

pub returns-in-Err-step-clause-rows : goal.returns-in-Err-step-clause-rows
returns-in-Err-step-clause-rows g c =
    let search = c.args.search.now in
    let x = c.steps.invariant.going in
    stops_rows g.S.Sink search.poly.now search.cone search.rays search.walker c.steps.search.walker
    c.steps.search.vector.items c.steps.left x.rows c.args.steps.now c.steps.steps x.listed c.args.shown c.steps.shown x.kind
    c.requires.kind c.args.out.now c.steps.out x.written c.step.new.search.walker c.step.new.out
    (ended_by c.step.new.search.walker.dict c.in-Err-step.stop) (stops g c) (Err c.ended_by.result) refl

pub returns-in-Err-step-clause-cause : goal.returns-in-Err-step-clause-cause
returns-in-Err-step-clause-cause g c =
    let search = c.args.search.now in
    let x = c.steps.invariant.going in
    subst (λ e. RisesAt {T = Shown} WriteFault (g.S.Sink.faults c.args.out.now) (g.S.Sink.faults c.step.new.out) (Err e))
    (sym c.ended_by.ensures)
    (stops_cause g.S.Sink search.poly.now search.cone search.rays c.steps.search.walker c.step.new.search.walker
    c.steps.shown c.args.out.now c.steps.out c.step.new.out x.same
    (ended_by c.step.new.search.walker.dict c.in-Err-step.stop) (stops g c))

pub returns-in-Err-step-clause-overflow : goal.returns-in-Err-step-clause-overflow
returns-in-Err-step-clause-overflow g c o h =
    let search = c.args.search.now in
    let x = c.steps.invariant.going in
    stops_due g.S.Sink search.poly.now search.cone search.rays c.steps.search.walker c.step.new.search.walker
    c.steps.search.vector.items x.listed.search search.walker.root x.listed.root c.steps.shown c.steps.out c.step.new.out
    (ended_by c.step.new.search.walker.dict c.in-Err-step.stop) (stops g c) o
    (subst (λ e. IsErrOf {T = Shown} (Err e) (Overflow o)) c.ended_by.ensures h)

pub returns-in-Err-step-clause-cost : goal.returns-in-Err-step-clause-cost
returns-in-Err-step-clause-cost g c =
    let search = c.args.search.now in
    let x = c.steps.invariant.going in
    takes_steps search.poly.now search.cone search.rays search.walker c.steps.search.walker c.steps.search.vector.items
    c.steps.left x.rows c.args.steps.now c.steps.steps x.listed c.step.new.steps c.in-Err-step.ensures.counted

-- ---- the end
ended : (g : Over) (c : goal.Then-is_end g) →
    HasEnded g.S.Sink c.args.search.now.poly.now c.args.shown c.args.out.now c.in-Ok-step.done.1 c.step.new.out
ended g c =
    let search = c.args.search.now in
    ends g.S.Sink search.poly.now search.cone search.rays search.walker c.steps.search.walker c.steps.search.vector.items
    c.lower.new.self c.args.steps.now c.steps.steps c.args.shown c.requires.kind c.args.out.now c.steps.shown c.steps.out
    (subst (λ n. Going g.S.Sink search.poly.now search.cone search.rays search.walker c.steps.search.walker
    c.steps.search.vector.items n c.args.steps.now c.steps.steps c.args.shown c.args.out.now c.steps.shown c.steps.out)
    c.lower.ensures c.steps.invariant.going)
    c.step.new.search.walker c.step.new.search.vector.items c.in-Ok-step.ensures.width c.step.new.steps
    c.in-Ok-step.ensures.counted c.in-Ok-step.done.1 c.step.new.out c.in-Ok-step.done.0
    (c.is_end.ensures.0 c.if-is_end.true)
    (subst (λ (s : System). WritesStep g.S.Sink.written g.S.Sink.faults s c.steps.search.walker c.in-Ok-step.done.0
    c.step.new.search.walker c.steps.shown c.steps.out c.in-Ok-step.done.1 c.step.new.out) c.steps.invariant.cone
    c.in-Ok-step.ensures.step)

pub returns-then-is_end-clause-rows : goal.returns-then-is_end-clause-rows
returns-then-is_end-clause-rows g c =
    let x = ended g c in record { whole = (x.rows, x.extreme, x.written); part = tt }

pub returns-then-is_end-clause-kind : goal.returns-then-is_end-clause-kind
returns-then-is_end-clause-kind g c = (ended g c).kind

pub returns-then-is_end-clause-cause : goal.returns-then-is_end-clause-cause
returns-then-is_end-clause-cause g c =
    let same = (ended g c).same in
    record { later = omega (arith, same); failed = λ f. absurd cc; same = λ n. same }

pub returns-then-is_end-clause-cost : goal.returns-then-is_end-clause-cost
returns-then-is_end-clause-cost g c =
    let search = c.args.search.now in
    let x = c.steps.invariant.going in
    takes_steps search.poly.now search.cone search.rays search.walker c.steps.search.walker c.steps.search.vector.items
    c.steps.left x.rows c.args.steps.now c.steps.steps x.listed c.step.new.steps c.in-Ok-step.ensures.counted

-- ---- one step further
pub steps-preserved : goal.steps-preserved
steps-preserved g c =
    let search = c.args.search.now in
    record {
      going = goes g.S.Sink search.poly.now search.cone search.rays search.walker c.steps.search.walker
          c.steps.search.vector.items c.lower.new.self c.args.steps.now c.steps.steps c.args.shown c.requires.kind
          c.args.out.now c.steps.shown c.steps.out
          (subst (λ n. Going g.S.Sink search.poly.now search.cone search.rays search.walker c.steps.search.walker
          c.steps.search.vector.items n c.args.steps.now c.steps.steps c.args.shown c.args.out.now c.steps.shown c.steps.out)
          c.lower.ensures c.steps.invariant.going)
          c.step.new.search.walker c.step.new.search.vector.items c.in-Ok-step.ensures.width c.step.new.steps
          c.in-Ok-step.ensures.counted c.in-Ok-step.done.1 c.step.new.out c.in-Ok-step.done.0
          (λ e. let t = c.is_end.ensures.1 e in let f = c.if-is_end.false in cc)
          (subst (λ (s : System). WritesStep g.S.Sink.written g.S.Sink.faults s c.steps.search.walker c.in-Ok-step.done.0
          c.step.new.search.walker c.steps.shown c.steps.out c.in-Ok-step.done.1 c.step.new.out) c.steps.invariant.cone
          c.in-Ok-step.ensures.step);
      poly = c.in-Ok-step.ensures.poly ∙ c.steps.invariant.poly;
      cone = c.in-Ok-step.ensures.cone ∙ c.steps.invariant.cone;
      rays = c.in-Ok-step.ensures.rays ∙ c.steps.invariant.rays;
    }
