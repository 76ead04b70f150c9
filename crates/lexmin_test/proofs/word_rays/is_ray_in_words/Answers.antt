use Rattle.std.proofs.Common.{refl}
use Rattle.lexmin_test.proofs.word_rays.is_ray_in_words.Goals as goal

pub returns : goal.returns
returns c = (
  (λ t. record {
    column = c.requires.column;
    none = c.if-not-none_leaves_in_words.ensures.0 refl;
    others = c.are_others_positive_in_words.ensures.0 t;
  }),
  (λ h. c.are_others_positive_in_words.ensures.1 h.others),
)
