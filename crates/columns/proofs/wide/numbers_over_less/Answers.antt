use Rattle.std.proofs.Common.{◌≡◌, ◌∙◌, ◌*ℤ◌, ℤ, pos, ap, sym, refl, get_or}
use Rattle.std.specs.Prelude.{int_div}
use Rattle.poly_num.proofs.Ring.{one_mul}
use Rattle.columns.proofs.DivisorLemmas.{quotient_exact}
use Rattle.columns.proofs.PassingLemmas.{rescaled_or_passes}
use Rattle.columns.proofs.wide.numbers_over_less.Goals.{After-quotient-factor}
use Rattle.columns.proofs.wide.numbers_over_less.Goals as goal

-- the factor between the two divisors
times : (c : After-quotient-factor) → c.quotient-factor.result *ℤ c.args.less.now ≡ c.args.divisor.now
times c =
    let less = c.args.less.now in
    let g = c.args.divisor.now in
    let e : c.quotient-factor.result ≡ int_div g less =
    c.quotient-factor.ensures ∙ rw (c.number.ensures.value, c.number-2.ensures.value) refl in
    ap (λ (z : ℤ). z *ℤ less) e ∙ quotient_exact less g c.number-2.ensures.positive c.requires.divides

pub returns-then-is_one : goal.returns-then-is_one
returns-then-is_one c =
    let less = c.args.less.now in
    let one : c.quotient-factor.result ≡ pos 1 = c.is_one.ensures.0 c.if-is_one.true in
    let e : less ≡ c.args.divisor.now =
    sym (one_mul less) ∙ ap (λ (z : ℤ). z *ℤ less) (sym one)
    ∙ times (goal.at.returns-then-is_one c).After-quotient-factor in
    record {
      same_length = refl;
      scaled = λ k l. ap (λ (z : ℤ). get_or c.args.new.now k (pos 0) *ℤ z) e;
    }

pub returns : goal.returns
returns c =
    rescaled_or_passes c.args.count c.args.divisor.now c.args.less.now c.quotient-factor.result c.args.new.now
    c.scale_numbers.new.new (times (goal.at.returns c).After-quotient-factor) c.scale_numbers.result
    c.scale_numbers.ensures
