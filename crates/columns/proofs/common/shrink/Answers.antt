use Rattle.std.proofs.Common.{ℤ, sym, subst, ◌∙◌}
use Rattle.poly_num.specs.Divisors.{IsGcdOf}
use Rattle.columns.proofs.DivisorLemmas.{gcd_turned}
use Rattle.columns.proofs.common.shrink.Goals as goal

pub returns-in-Some : goal.returns-in-Some
returns-in-Some c _ =
    let h = c.args.divisor.now in
    let n = c.args.n in
    let g = c.gcd-common.result in
    let turned : IsGcdOf n h g =
    subst (λ (z : ℤ). IsGcdOf n z g) (c.wide.ensures.value ∙ c.word.ensures.value) c.gcd-common.ensures.divisor in
    subst (λ (z : ℤ). IsGcdOf h n z) (sym c.in-Some.ensures) (gcd_turned n h g turned)
