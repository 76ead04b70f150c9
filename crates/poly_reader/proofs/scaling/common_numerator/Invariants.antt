use Rattle.std.proofs.Common.{◌≡◌, ◌<◌, ◌^◌, drop}
use Rattle.poly_num.specs.Divisors.{gcd_of, gcd_of_all}
use Rattle.poly_reader.specs.Scaling.{numerators}
use Rattle.poly_reader.proofs.scaling.common_numerator.Given as goal

-- p and the numerators from f-index on have the greatest common divisor of all
abbrev pub invariant-row : goal.invariant-row
invariant-row l = record {
  value : gcd_of l.p (gcd_of_all (drop l.f-index (numerators l.row))) ≡ gcd_of_all (numerators l.row);
  within : l.p < 2 ^ 127;
}
