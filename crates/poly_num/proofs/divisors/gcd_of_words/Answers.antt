use Rattle.std.proofs.Common.{arith}
use Rattle.std.proofs.lemmas.Nat.Gcd.{IsGcd-from_zero, IsGcd-from_mod}
use Rattle.poly_num.proofs.DivisorLemmas.{gcd_bounded, gcd_same, IsGcd-one}
use Rattle.poly_num.proofs.divisors.gcd_of_words.Goals as goal

pub loop-y-preserved : goal.loop-y-preserved
loop-y-preserved c g h = c.loop-y.invariant g (IsGcd-from_mod _ _ g h)

pub returns-then-y-eq1 : goal.returns-then-y-eq1
returns-then-y-eq1 c =
    let d = c.loop-y.invariant _ (IsGcd-one _ _ c.if-y-eq1.true) in
    record { value = gcd_same _ _ _ d; bounded = gcd_bounded _ _ _ d }

pub returns-else-y-eq1 : goal.returns-else-y-eq1
returns-else-y-eq1 c =
    let d = c.loop-y.invariant _ (IsGcd-from_zero _ _ (omega arith)) in
    record { value = gcd_same _ _ _ d; bounded = gcd_bounded _ _ _ d }
