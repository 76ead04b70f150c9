use Rattle.std.proofs.Common.{sym, arith, ◌∙◌}
use Rattle.std.proofs.lemmas.Bool.{eq-eqb, ne_eqb}
use Rattle.std.proofs.lemmas.Result.{err_from_is_err_and}
use Rattle.poly_reader.specs.Lines.{word}
use Rattle.poly_reader.proofs.MatrixLemmas.{no_end, at_end, too_many, no_number, one_number}
use Rattle.poly_reader.proofs.matrix.extent_of.Goals as goal

pub returns-in-None-clause-gives : goal.returns-in-None-clause-gives
returns-in-None-clause-gives c =
    rw c.bad.ensures
    (sym c.numbers.invariant.same ∙ no_end c.args.last c.args.rows c.args.width c.numbers.count c.numbers.words
    c.in-None.ensures)

pub returns-then-is-clause-gives : goal.returns-then-is-clause-gives
returns-then-is-clause-gives c =
    rw (
      ← c.numbers.invariant.same,
      at_end c.args.last c.args.rows c.args.width c.numbers.count (word c.in-Some.next.0)
          c.numbers.words c.in-Some.next.1 c.in-Some.ensures (sym c.if-is.ensures),
    ) c.end_at.ensures.gives

pub returns-then-count-most-clause-gives : goal.returns-then-count-most-clause-gives
returns-then-count-most-clause-gives c =
    rw (c.bad-then-count-most.ensures, c.excess_of.ensures)
    (sym c.numbers.invariant.same ∙ too_many c.args.last c.args.rows c.args.width c.numbers.count
    (word c.in-Some.next.0) c.numbers.words c.in-Some.next.1 c.in-Some.ensures (sym c.if-is.ensures)
    (eq-eqb _ _ (c.if-count-most.true ∙ c.most_numbers-most.ensures.value)))

pub returns-in_err-check_number_at-clause-gives : goal.returns-in_err-check_number_at-clause-gives
returns-in_err-check_number_at-clause-gives c =
    let p = err_from_is_err_and c.from_residual.result c.from_residual.ensures.1 in
    rw (p.1, p.2) (sym c.numbers.invariant.same ∙ no_number c.args.last c.args.rows c.args.width c.numbers.count
    c.in_err-check_number_at.field-0.0 (word c.in-Some.next.0) c.numbers.words c.in-Some.next.1 c.in-Some.ensures
    (sym c.if-is.ensures) (ne_eqb _ _ (rw (← c.most_numbers-most.ensures.value) c.if-count-most.false))
    c.in_err-check_number_at.ensures)

pub numbers-preserved : goal.numbers-preserved
numbers-preserved c = record {
  same =
      one_number c.args.last c.args.rows c.args.width c.numbers.count
      (word c.in-Some.next.0) c.numbers.words c.in-Some.next.1 c.in-Some.ensures (sym c.if-is.ensures)
      (ne_eqb _ _ (rw (← c.most_numbers-most.ensures.value) c.if-count-most.false)) c.in_ok-check_number_at.ensures
      ∙ c.numbers.invariant.same;
  within = omega (arith, c.numbers.invariant.within, c.if-count-most.false);
}
