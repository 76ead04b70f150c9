use Rattle.std.proofs.Common.{◌∙◌, refl}
use Rattle.lexmin_test.proofs.points.is_settled.Goals as goal

pub returns-then-is_nonzero : goal.returns-then-is_nonzero
returns-then-is_nonzero c = (
  (λ t o z. absurd (c.if-is_nonzero.ensures.0 refl (c.requires.constants.numbers c.args.place c.requires.place ∙ z))),
  (λ h. refl),
)
