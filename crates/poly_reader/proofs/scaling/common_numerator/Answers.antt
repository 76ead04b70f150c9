use Rattle.std.proofs.Common.{◌∙◌, arith}
use Rattle.poly_reader.proofs.ScalingLemmas.{divisor_starts, divisor_more, divisor_ends}
use Rattle.poly_reader.proofs.scaling.common_numerator.Goals as goal

pub row-init : goal.row-init
row-init c = record { value = divisor_starts c.args.row.now; within = omega arith }

pub row-preserved : goal.row-preserved
row-preserved c = record {
  value =
      rw (c.gcd_of_sizes-p.ensures.value, c.size.ensures.value, c.num.ensures.value)
      (divisor_more c.row.p c.row.f-index c.args.row.now c.f-item.result c.row-test.true c.f-item.is
      ∙ c.row.invariant.value);
  within = c.gcd_of_sizes-p.ensures.within;
}

pub returns-clause-value : goal.returns-clause-value
returns-clause-value c = divisor_ends c.row.p c.row.f-index c.args.row.now c.row-test.false c.row.invariant.value
