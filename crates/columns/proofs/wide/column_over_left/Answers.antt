use Rattle.std.proofs.Common.{◌∙◌, ◌<◌, ◌*◌, ◌*ℤ◌, ℕ, ℤ, pos, ap, sym, arith, get_or}
use Rattle.std.proofs.lemmas.Nat.Gcd.{dvd_trans}
use Rattle.std.proofs.Math.Nat.{lt_of_mul-lt-mul_right}
use Rattle.columns.proofs.ColumnLemmas.{done_less}
use Rattle.columns.proofs.DivisorLemmas.{quotient_exact}
use Rattle.columns.proofs.PassingLemmas.{rescaled_passes}
use Rattle.std.specs.Prelude.{int_div}
use Rattle.columns.specs.Steps.{IsScale}
use Rattle.columns.proofs.wide.column_over_left.Goals.{After-quotient-factor}
use Rattle.columns.proofs.wide.column_over_left.Goals as goal

pub returns-in-Err-clause-done : goal.returns-in-Err-clause-done
returns-in-Err-clause-done c =
    let parts = c.args.parts.now in
    let x = parts.x.now in
    let spot = c.spot_of.result in
    let g = c.args.scale.now.divisor in
    let e = c.in-Err.ensures in
    let within : spot.column * x.height < c.args.column * x.height = omega (arith, c.spot_of.ensures.same, e.within) in
    rescaled_passes c.args.old.now parts parts.u c.requires.reached.from_parts c.args.column g c.in_ok-less.less c.args.new.now
    c.in_ok-less.ensures.left.positive (omega (arith, c.requires.reached.within)) c.requires.reached.over spot.row spot.column
    c.spot_of.ensures.row (lt_of_mul-lt-mul_right x.height within) e.number
    (e.same ∙ ap (λ (k : ℕ). get_or c.args.new.now k (pos 0) *ℤ g) (sym c.spot_of.ensures.same)) e.passes

-- the denominator over what is left of the divisor
smaller : (c : After-quotient-factor) → IsScale c.args.parts.now.x.now c.in_ok-less.less c.quotient-factor.result
smaller c =
    let d = c.args.parts.now.x.now.denominator in
    let less = c.in_ok-less.less in
    let left = c.in_ok-less.ensures.left in
    record {
      positive = left.positive;
      whole =
          ap (λ (z : ℤ). z *ℤ less) (c.quotient-factor.ensures ∙ ap (λ (g : ℤ). int_div d g) c.number.ensures.value)
          ∙ quotient_exact less d left.positive (dvd_trans _ left.divides c.requires.reached.over.divides);
    }

pub quotients_of_column-requires-clause-scale : goal.quotients_of_column-requires-clause-scale
quotients_of_column-requires-clause-scale c =
    smaller (goal.at.quotients_of_column-requires-clause-scale c).After-quotient-factor

pub returns-clause-scale : goal.returns-clause-scale
returns-clause-scale c = smaller (goal.at.returns-clause-scale c).After-quotient-factor

pub returns-clause-done : goal.returns-clause-done
returns-clause-done c =
    done_less c.args.old.now c.args.parts.now c.args.column c.args.scale.now.divisor c.in_ok-less.less c.args.new.now
    c.numbers_over_less.new.new c.quotients_of_column.new.new c.in_ok-less.ensures.left c.in_default.ensures
    c.quotients_of_column.ensures.kept c.in_ok-quotients_of_column.ensures.written
