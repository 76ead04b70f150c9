use Rattle.std.proofs.Common.{arith}
use Rattle.std.proofs.lemmas.Nat.Gcd.{IsGcd-from_zero, IsGcd-from_mod}
use Rattle.poly_num.proofs.DivisorLemmas.{gcd_bounded, gcd_same}
use Rattle.poly_num.proofs.divisors.gcd_of_wide.Goals as goal

pub loop-y-preserved : goal.loop-y-preserved
loop-y-preserved c g h = c.loop-y.invariant g (IsGcd-from_mod _ _ g h)

pub returns : goal.returns
returns c =
    let d = c.loop-y.invariant _ (IsGcd-from_zero _ _ (omega arith)) in
    record { value = gcd_same _ _ _ d; bounded = gcd_bounded _ _ _ d }
