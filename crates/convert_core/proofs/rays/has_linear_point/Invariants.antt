use Rattle.std.proofs.Common.{ℕ, ◌<◌, ◌≤◌}
use Rattle.poly_model.specs.Systems.{row_of}
use Rattle.convert_core.specs.Rays.{IsLinearPoint}
use Rattle.convert_core.proofs.rays.has_linear_point.Given as goal

-- no row up to this place is one
abbrev pub invariant-rows : goal.invariant-rows
invariant-rows l = (j : ℕ) → 0 < j → j ≤ l.i → IsLinearPoint (row_of l.cone.rows j) → ⊥
