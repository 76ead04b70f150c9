use Rattle.std.proofs.Common.{refl, sym, arith}
use Rattle.std.proofs.lemmas.Bool.{eqb-true}
use Rattle.poly_reader.proofs.Multiples.{lcm_of_multiple}
use Rattle.poly_reader.proofs.ScalingLemmas.{divisor_positive, lcm_is}
use Rattle.poly_reader.proofs.scaling.lcm.Goals as goal

pub returns-then-is_multiple : goal.returns-then-is_multiple
returns-then-is_multiple c =
    let e = lcm_of_multiple c.args.a c.args.b (eqb-true _ _ (sym c.if-is_multiple.ensures)) in
    (omega (arith, e, c.requires.left.within), e)

pub over_size-left-requires : goal.over_size-left-requires
over_size-left-requires c =
    rw c.gcd_of_sizes.ensures.value (divisor_positive c.args.a c.args.b c.requires.right.positive)

pub returns-then-m : goal.returns-then-m
returns-then-m c =
    let e = lcm_is c.args.a c.args.b c.in-Some.m
    (rw (← c.gcd_of_sizes.ensures.value, ← c.over_size-left.ensures) c.in-Some.ensures.1) in
    (omega (arith, e, c.if-m.true), e)

pub returns-else-m : goal.returns-else-m
returns-else-m c =
    let e = lcm_is c.args.a c.args.b c.in-Some.m
    (rw (← c.gcd_of_sizes.ensures.value, ← c.over_size-left.ensures) c.in-Some.ensures.1) in
    λ less. omega (arith, e, c.if-m.false)

pub returns-in-None : goal.returns-in-None
returns-in-None c =
    let e = lcm_is c.args.a c.args.b _ refl in
    λ less. c.in-None.ensures (rw (c.over_size-left.ensures, c.gcd_of_sizes.ensures.value) (omega (arith, e)))
