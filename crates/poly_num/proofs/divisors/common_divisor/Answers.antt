use Rattle.std.proofs.Common.{arith, ap, pos, sym, ◌∙◌}
use Rattle.poly_num.specs.Divisors.{gcd_of, gcd_of_all}
use Rattle.poly_num.proofs.DivisorLemmas.{zero-gcd_of}
use Rattle.poly_num.proofs.PrimitiveLemmas.{gcd_along, gcd_at_end, gcd_is_one}
use Rattle.poly_num.proofs.divisors.common_divisor.Goals as goal

pub loop-x-init : goal.loop-x-init
loop-x-init c = record { range = omega arith; rest = zero-gcd_of (gcd_of_all c.args.v.now) }

pub loop-x-preserved : goal.loop-x-preserved
loop-x-preserved c = record {
  range = omega arith;
  rest =
      rw (c.gcd_of_sizes-g.ensures.value, c.size.ensures.value)
      (gcd_along c.loop-x.g c.loop-x.x-index c.args.v.now c.x-item.result (omega arith) c.x-item.is
      ∙ c.loop-x.invariant.rest);
}

pub returns : goal.returns
returns c =
    c.from_parts.ensures
    ∙ ap pos (sym (gcd_at_end c.loop-x.g c.loop-x.x-index c.args.v.now (omega arith)) ∙ c.loop-x.invariant.rest)

pub returns-then-g-eq1 : goal.returns-then-g-eq1
returns-then-g-eq1 c =
    ap pos (sym (gcd_is_one c.loop-x.g c.loop-x.x-index c.args.v.now c.x-item.result (omega arith) c.x-item.is
    c.loop-x.invariant.rest
    (ap (λ n. gcd_of c.loop-x.g n) (sym c.size.ensures.value) ∙ sym c.gcd_of_sizes-g.ensures.value ∙ c.if-g-eq1.true)))
