use Rattle.std.proofs.Common.{refl}
use Rattle.lexmin_test.proofs.rays.is_ray.Goals as goal

pub returns : goal.returns
returns c = (
  (λ t. record {
    column = c.requires;
    none = c.if-not-none_leaves.ensures.0 refl;
    others = c.are_others_positive.ensures.0 t;
  }),
  (λ h. c.are_others_positive.ensures.1 h.others),
)
