use Rattle.std.proofs.Common.{◌≡◌, ℤ, pos, arith, sym, subst}
use Rattle.std.proofs.Math.Nat.{one-dvd}
use Rattle.poly_num.specs.Divisors.{IsGcdOf}
use Rattle.poly_num.proofs.Ring.{lin}
use Rattle.columns.proofs.DivisorLemmas.{gcd_divides, gcd_turned}
use Rattle.columns.proofs.common.common_with.Goals as goal

pub returns-then-is_one : goal.returns-then-is_one
returns-then-is_one c =
    let e : c.args.common ≡ pos 1 = c.is_one.ensures.0 c.if-is_one.true in
    subst (λ (z : ℤ). IsGcdOf z c.args.c z) (sym e) (gcd_divides (pos 1) c.args.c (omega (arith, lin)) (one-dvd _))

pub returns : goal.returns
returns c = gcd_turned c.args.c c.args.common c.gcd.result c.gcd.ensures.divisor
