use Rattle.std.proofs.Common.{◌≡◌, ℕ, ◌<◌, true}
use Rattle.std.specs.List.{Contains}
use Rattle.poly_model.specs.Systems.{row_of}
use Rattle.hull_lift.proofs.facet_tests.has_point_rows.Given as goal

-- the point rows before row i have labels
abbrev pub invariant-rows : goal.invariant-rows
invariant-rows l = (k : ℕ) → 0 < k → k < l.i → (row_of l.sys.rows k).point ≡ true → Contains l.dict.labels k
