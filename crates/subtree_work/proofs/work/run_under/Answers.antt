use Rattle.std.specs.Prelude.{OnErr, IfOk}
use Rattle.std.specs.Result.{IsErrOf}
use Rattle.std.proofs.Common.{◌≡◌, inl, true≢false, Err, sym, subst, ◌∙◌}
use Rattle.poly_model.specs.declared.listed.Count.{Count}
use Rattle.poly_model.specs.declared.overflow.Overflow.{Overflow as Passed}
use Rattle.poly_model.specs.Due.{IsDue, IsAskedInMain, IsAskedOnTheWay}
use Rattle.work_core.specs.declared.stops.WorkStop.{WorkStop}
use Rattle.work_core.specs.ReplyLines.{IsWholeRun, IsCutRun, IsTornRun}
use Rattle.work_core.specs.Searches.{by_subtrees}
use Rattle.work_core.proofs.WalkedLemmas.{no_lines, cut_is_torn}
use Rattle.subtree_work.proofs.Beginnings.{holds_at_key}
use Rattle.subtree_work.proofs.Searched.{due_in_run}
use Rattle.subtree_work.proofs.work.run_under.Goals as goal

pub returns-in-Ok-true-clause-whole : goal.returns-in-Ok-true-clause-whole
returns-in-Ok-true-clause-whole g c p file is =
    let old = g.S.Sink.written c.args.out.now in
    let new = g.S.Sink.written c.run_on.new.out in
    holds_at_key c.args.search.now.walker c.args.key.now c.in-Ok-true.field-0 c.go_to.new.search.walker
    c.in-Ok-true.ensures.starts c.in-Ok-true.field-0-test
    (λ root job. IfOk c.run_on.result (IsWholeRun (by_subtrees p root) job c.args.budget old new))
    (c.run_on.ensures.whole p (c.in-Ok-true.ensures.sys ∙ file))

pub returns-in-Ok-true-clause-overflow : goal.returns-in-Ok-true-clause-overflow
returns-in-Ok-true-clause-overflow g c o e p file is =
    let s = c.args.search.now in
    let old = g.S.Sink.written c.args.out.now in
    let new = g.S.Sink.written c.run_on.new.out in
    let both = holds_at_key s.walker c.args.key.now c.in-Ok-true.field-0 c.go_to.new.search.walker c.in-Ok-true.ensures.starts
    c.in-Ok-true.field-0-test
    (λ root job. IsDue p o (IsAskedInMain p root o) × IsCutRun (by_subtrees p root) job old new)
    (c.run_on.ensures.overflow o e p (c.in-Ok-true.ensures.sys ∙ file)) in
    (due_in_run p s.walker.dict.key c.args.key.now s.walker.root o both.0, both.1)

pub returns-in-Ok-true-clause-torn : goal.returns-in-Ok-true-clause-torn
returns-in-Ok-true-clause-torn g c p file is =
    let old = g.S.Sink.written c.args.out.now in
    let new = g.S.Sink.written c.run_on.new.out in
    holds_at_key c.args.search.now.walker c.args.key.now c.in-Ok-true.field-0 c.go_to.new.search.walker
    c.in-Ok-true.ensures.starts c.in-Ok-true.field-0-test
    (λ root job. OnErr c.run_on.result (IsTornRun (by_subtrees p root) job old new))
    (c.run_on.ensures.torn p (c.in-Ok-true.ensures.sys ∙ file))

pub returns-in-Ok-false-clause-whole : goal.returns-in-Ok-false-clause-whole
returns-in-Ok-false-clause-whole g c p file is =
    absurd (true≢false (sym ((c.in-Ok-false.ensures.key p file).1 is) ∙ c.in-Ok-false.field-0-test))

same_overflow : (a o : Passed) → IsErrOf {T = Count} {E = WorkStop} (Err (WorkStop.Overflow a)) (WorkStop.Overflow o) → a ≡ o
same_overflow a o h = cc

-- ---- on the way
pub returns-clause-overflow : goal.returns-clause-overflow
returns-clause-overflow g c o e p file is =
    let s = c.args.search.now in
    let d : IsDue p o (IsAskedOnTheWay p s.walker.dict.key c.args.key.now o) =
    subst (λ (x : Passed). IsDue p x (IsAskedOnTheWay p s.walker.dict.key c.args.key.now x))
    (same_overflow c.in-Err.overflow o e) (c.in-Err.ensures.overflow p file) in (
      record { passes = d.passes; asked = inl d.asked },
      no_lines (by_subtrees p s.walker.root) c.args.key.now (g.S.Sink.written c.args.out.now),
    )

pub returns-clause-torn : goal.returns-clause-torn
returns-clause-torn g c p file is =
    let s = c.args.search.now in
    let old = g.S.Sink.written c.args.out.now in
    cut_is_torn (by_subtrees p s.walker.root) c.args.key.now old old
    (no_lines (by_subtrees p s.walker.root) c.args.key.now old)
