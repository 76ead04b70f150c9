use Rattle.std.proofs.lemmas.Nat.Gcd.{mod-eq-zero_of_dvd}
use Rattle.std.specs.Prelude.{unsigned_abs}
use Rattle.poly_num.proofs.exact.divided.Goals as goal

pub returns-else-size-eq0 : goal.returns-else-size-eq0
returns-else-size-eq0 c h =
    c.if-size-eq0.false
    (rw (c.size.ensures.value, c.size-2.ensures.value) (mod-eq-zero_of_dvd (unsigned_abs c.args.d) h))
