use Rattle.std.proofs.Common.{subst, sym}
use Rattle.poly_num.specs.Divisors.{MakesPrimitive}
use Rattle.poly_num.proofs.PrimitiveLemmas.{MakesPrimitive-quotients, quotients_of_zeros}
use Rattle.poly_num.proofs.vectors.primitive.Goals as goal

pub returns-then-is_positive-clause-primitive : goal.returns-then-is_positive-clause-primitive
returns-then-is_positive-clause-primitive c =
    rw (c.divide.ensures, c.common_divisor-g.ensures) (MakesPrimitive-quotients c.args.v.now)

pub returns-else-is_positive-clause-value : goal.returns-else-is_positive-clause-value
returns-else-is_positive-clause-value c =
    quotients_of_zeros c.args.v.now c.common_divisor-g.result c.common_divisor-g.ensures
    (λ p. let e = c.if-is_positive.ensures.1 p in cc)

pub returns-else-is_positive-clause-primitive : goal.returns-else-is_positive-clause-primitive
returns-else-is_positive-clause-primitive c =
    subst (λ new. MakesPrimitive c.args.v.now new)
    (sym (quotients_of_zeros c.args.v.now c.common_divisor-g.result c.common_divisor-g.ensures
    (λ p. let e = c.if-is_positive.ensures.1 p in cc)))
    (MakesPrimitive-quotients c.args.v.now)
