use Rattle.std.proofs.Common.{refl, sym, true≢false}
use Rattle.lexmin_test.proofs.rays.shows_ray_by.Goals as goal

pub returns-then-leads_down : goal.returns-then-leads_down
returns-then-leads_down c = (
  (λ t. absurd (true≢false (sym t))),
  (λ h. absurd (c.if-leads_down.ensures.leaves refl h.none)),
)
