use Rattle.std.proofs.Common.{ℤ, subst}
use Prim.Native.Nat.{◌∣◌}
use Rattle.std.specs.Prelude.{unsigned_abs}
use Rattle.poly_num.proofs.DivisorLemmas.{dvd-multiple}
use Rattle.columns.proofs.DivisorLemmas.{gcd_divides}
use Rattle.columns.proofs.multiplier.shared_divisor.Goals as goal

pub returns-in-Some : goal.returns-in-Some
returns-in-Some c =
    let h = c.args.divisor in
    gcd_divides h c.args.n c.exact.ensures.positive
    (subst (λ (z : ℤ). unsigned_abs h ∣ unsigned_abs z) c.in-Some.ensures.quotient (dvd-multiple h c.in-Some.field-0))
