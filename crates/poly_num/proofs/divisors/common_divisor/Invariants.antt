use Rattle.std.proofs.Common.{◌≡◌, ◌<◌, ◌^◌, drop}
use Rattle.poly_num.specs.Divisors.{gcd_of, gcd_of_all}
use Rattle.poly_num.proofs.divisors.common_divisor.Given as goal

abbrev pub invariant-loop-x : goal.invariant-loop-x
invariant-loop-x l = record {
  range : l.g < 2 ^ 127;
  rest : gcd_of l.g (gcd_of_all (drop l.x-index l.v)) ≡ gcd_of_all l.v;
}
