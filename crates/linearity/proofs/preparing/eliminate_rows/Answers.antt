use Rattle.std.proofs.Common.{◌≡◌, ◌↔◌, ◌+◌, Err, length, subst, sym, ◌∙◌}
use Rattle.std.specs.Result.{IsErrOf}
use Rattle.std.proofs.lemmas.Bool.{true≢false}
use Rattle.poly_model.specs.declared.overflow.Overflow.{Overflow as Passed}
use Rattle.poly_model.specs.declared.overflow.Phase.TheVariants.{Prepare}
use Rattle.poly_model.specs.Systems.{System, Polyhedron, cone_of}
use Rattle.poly_model.specs.Equations.{AreConsistent}
use Rattle.dictionary.specs.Views.{Dictionary}
use Rattle.linearity.specs.declared.eliminate.Pass.TheVariants.{Linear, Others}
use Rattle.linearity.specs.declared.preparing.PrepareStop.{PrepareStop}
use Rattle.linearity.specs.declared.preparing.PrepareStop.TheVariants.{Overflow}
use Rattle.linearity.specs.Elimination.{IsDictionaryOf, IsEliminated}
use Rattle.linearity.specs.Prepared.{HasNoConstants, BeginsElimination}
use Rattle.linearity.proofs.Beginnings.{second_pass}
use Rattle.poly_model.specs.Due.{IsDue, IsAskedBefore}
use Rattle.linearity.proofs.Consistency.{consistent_exactly}
use Rattle.linearity.proofs.DueOverflows.{due_in_first, due_in_second}
use Rattle.linearity.proofs.preparing.eliminate_rows.Goals.{After-are_consistent}
use Rattle.linearity.proofs.preparing.eliminate_rows.Goals as goal

-- the overflow that is handed on
same_overflow : (x o : Passed) → IsErrOf {T = Unit {0}} {E = PrepareStop} (Err (Overflow x)) (Overflow o) → x ≡ o
same_overflow x o h = cc

-- what the first pass has led to
record AfterFirstPass (p : Polyhedron) (sys : System) (d : Dictionary) : Type 0 where
  of : IsDictionaryOf p d
  phase : d.phase ≡ Prepare
  consistent : AreConsistent p ↔ HasNoConstants sys d
  untried : IsEliminated (cone_of p).rows Others 1 d

first_pass : (c : After-are_consistent) (p : Polyhedron) → c.args.sys.now ≡ cone_of p →
    BeginsElimination p c.args.dict.now → AfterFirstPass p c.args.sys.now c.enter_rows.new.dict
first_pass c p file begun =
    let d = c.enter_rows.new.dict in
    let first = c.in_default.ensures.entered p file begun.of
    (subst (λ (s : System). IsEliminated s.rows Linear 1 c.args.dict.now) (sym file) begun.untried) in
    let phase = c.enter_rows.ensures.phase ∙ begun.phase in
    record {
      of = first.0;
      phase = phase;
      consistent = consistent_exactly p c.args.sys.now d file first.0 phase first.1;
      untried =
          second_pass p d first.0
          (subst (λ (s : System). IsEliminated s.rows Linear (length s.rows + 1) d) file first.1);
    }

pub returns-in-Err-clause-overflow : goal.returns-in-Err-clause-overflow
returns-in-Err-clause-overflow c o h p file begun =
    subst (λ x. IsDue p x (IsAskedBefore p x)) (same_overflow c.in-Err.overflow o h)
    (due_in_first p c.args.sys.now c.in-Err.ensures.stopped.0 c.args.dict.now c.enter_rows.new.dict c.in-Err.overflow file
    begun.of (c.enter_rows.ensures.phase ∙ begun.phase) begun.untried c.in-Err.ensures.stopped.1)

pub returns-in-Err-enter_rows-clause-overflow : goal.returns-in-Err-enter_rows-clause-overflow
returns-in-Err-enter_rows-clause-overflow c o h p file begun =
    let first = first_pass (goal.at.returns-in-Err-enter_rows-clause-overflow c).After-are_consistent p file begun in
    subst (λ x. IsDue p x (IsAskedBefore p x)) (same_overflow c.in-Err-enter_rows.overflow o h)
    (due_in_second p c.args.sys.now c.in-Err-enter_rows.ensures.stopped.0 c.enter_rows.new.dict c.enter_rows-2.new.dict
    c.in-Err-enter_rows.overflow file first.of (c.enter_rows-2.ensures.phase ∙ first.phase)
    (first.consistent.1 ((c.are_consistent.ensures).0 c.if-not-are_consistent.false)) first.untried
    c.in-Err-enter_rows.ensures.stopped.1)

pub returns-then-not-are_consistent-clause-inconsistent :
    goal.returns-then-not-are_consistent-clause-inconsistent
returns-then-not-are_consistent-clause-inconsistent c h p file begun point =
    let all = (goal.at.returns-then-not-are_consistent-clause-inconsistent c).After-are_consistent in
    let first = first_pass all p file begun in
    true≢false (sym ((c.are_consistent.ensures).1 (first.consistent.0 point)) ∙ c.if-not-are_consistent.true)

pub returns-in-Ok-clause-ended : goal.returns-in-Ok-clause-ended
returns-in-Ok-clause-ended c p file begun =
    let first = first_pass (goal.at.returns-in-Ok-clause-ended c).After-are_consistent p file begun in
    let last = c.in-Ok.ensures.entered p file first.of
    (subst (λ (s : System). IsEliminated s.rows Others 1 c.enter_rows.new.dict) (sym file) first.untried) in
    record {
      consistent = first.consistent.1 ((c.are_consistent.ensures).0 c.if-not-are_consistent.false);
      phase = c.enter_rows-2.ensures.phase ∙ first.phase;
      of = last.0;
      tried = subst (λ (s : System). IsEliminated s.rows Others (length s.rows + 1) c.enter_rows-2.new.dict) file last.1;
    }
