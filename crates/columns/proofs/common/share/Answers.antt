use Rattle.std.proofs.Common.{ℤ, subst}
use Prim.Native.Nat.{◌∣◌}
use Rattle.std.specs.Prelude.{unsigned_abs}
use Rattle.poly_num.specs.Divisors.{IsGcdOf}
use Rattle.poly_num.proofs.DivisorLemmas.{dvd-multiple}
use Rattle.columns.proofs.DivisorLemmas.{gcd_divides}
use Rattle.columns.proofs.common.share.Goals as goal

pub returns-in-Some : goal.returns-in-Some
returns-in-Some c _ =
    let h = c.args.divisor.now in
    gcd_divides h c.args.c c.exact.ensures.positive
    (subst (λ (z : ℤ). unsigned_abs h ∣ unsigned_abs z) c.in-Some.ensures.quotient (dvd-multiple h c.in-Some.field-0))

pub returns-in-None : goal.returns-in-None
returns-in-None c done =
    subst (λ (z : ℤ). IsGcdOf c.args.divisor.now z c.shrink.new.divisor) c.wide.ensures.value (c.shrink.ensures done)
