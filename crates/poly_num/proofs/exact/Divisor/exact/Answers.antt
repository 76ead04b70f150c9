use Rattle.std.proofs.Common.{ℤ, subst}
use Rattle.std.specs.Option.{SomeIff}
use Rattle.std.specs.Prelude.{unsigned_abs, int_div}
use Prim.Native.Nat.{◌∣◌}
use Rattle.poly_num.proofs.WordLemmas.{exact_quotient}
use Rattle.poly_num.proofs.exact.Divisor.exact.Goals as goal

pub returns-in-Some : goal.returns-in-Some
returns-in-Some c =
    exact_quotient c.args.self.now c.args.n c.in-Some.q c.value-d.ensures.positive c.in-Some.ensures.0

pub returns-in-None : goal.returns-in-None
returns-in-None c =
    subst
    (λ (d : ℤ). SomeIff c.divided.result (unsigned_abs d ∣ unsigned_abs c.args.n) (int_div c.args.n d))
    c.value-d.ensures.value c.divided.ensures
