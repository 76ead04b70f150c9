use Rattle.std.proofs.Common.{◌≡◌, ◌∙◌, ℤ, pos, sym, ap}
use Rattle.std.specs.Prelude.{unsigned_abs}
use Rattle.poly_num.proofs.PrimitiveLemmas.{primitive_from_gcd, gcd_from_primitive}
use Rattle.poly_num.proofs.vectors.is_primitive.Goals as goal

pub returns : goal.returns
returns c =
    let v = c.args.v.now in (
      (λ one. primitive_from_gcd v (ap unsigned_abs (sym c.common_divisor.ensures ∙ c.is_one.ensures.0 one))),
      (λ h. c.is_one.ensures.1 (c.common_divisor.ensures ∙ ap pos (gcd_from_primitive v h))),
    )
