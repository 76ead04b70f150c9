use Rattle.std.proofs.Common.{◌≡◌, pos, unsigned_abs}
use Rattle.poly_num.specs.Divisors.{gcd_of}
use Rattle.poly_num.proofs.DivisorLemmas.{IsGcdOf_gcd_of}
use Rattle.poly_num.proofs.divisors.gcd.Goals as goal

pub returns-clause-divisor : goal.returns-clause-divisor
returns-clause-divisor c =
    let is : c.from_parts.result ≡ pos (gcd_of (unsigned_abs c.args.a) (unsigned_abs c.args.b)) = cc in
    IsGcdOf_gcd_of c.args.a c.args.b c.from_parts.result is
