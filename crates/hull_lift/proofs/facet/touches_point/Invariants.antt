use Rattle.std.proofs.Common.{ℕ, ◌<◌}
use Rattle.hull_lift.specs.Facets.{IsTouchedAt}
use Rattle.hull_lift.proofs.facet.touches_point.Given as goal

-- no row before row i is touched
abbrev pub invariant-rows : goal.invariant-rows
invariant-rows l = (k : ℕ) → k < l.i → IsTouchedAt l.sys l.dict l.fn.col k → ⊥
