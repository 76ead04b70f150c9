use Rattle.std.proofs.Common.{arith, ap, sym, ◌∙◌}
use Rattle.poly_num.specs.Divisors.{quotients}
use Rattle.poly_num.proofs.PrimitiveLemmas.{quotients-one}
use Rattle.std.specs.Prelude.{int_div}
use Rattle.std.proofs.lemmas.List.Edits.{map_over_more}
use Rattle.poly_num.proofs.vectors.divide.Goals as goal

pub loop-x-preserved : goal.loop-x-preserved
loop-x-preserved c =
    rw (c.quotient.ensures, ← c.x-item.is)
    (map_over_more (λ z. int_div z c.args.d) c.args.v.now c.loop-x.v c.loop-x.x-index c.x-item.result
    (omega arith) c.loop-x.invariant c.x-item.is)

pub returns-then-is_one : goal.returns-then-is_one
returns-then-is_one c =
    sym (ap (λ d. quotients c.args.v.now d) (c.is_one.ensures.0 c.if-is_one.true) ∙ quotients-one c.args.v.now)
