-- Which rays of a cone are shown.
use Rattle.std.specs.Prelude.{◌≡◌, ◌⊎◌, ℕ, ◌<◌, ◌≤◌, true, length}
use Rattle.poly_model.specs.declared.kind.Kind.TheVariants.{H, V}
use Rattle.poly_model.specs.Systems.{Row, System, row_of}
use Rattle.convert_core.specs.declared.rays.Rays.{Rays}
use Rattle.convert_core.specs.declared.rays.Rays.TheVariants.{All, Touching}

-- the row is linear, and that of a point
abbrev pub IsLinearPoint : Row → Type 0
IsLinearPoint row = (row.linear ≡ true) × (row.point ≡ true)

-- there is one
pub record HasLinearPoint (sys : System) : Type 0 where
  pub i : ℕ
  pub from_one : 0 < i
  pub within : i ≤ length sys.rows
  pub row : IsLinearPoint (row_of sys.rows i)

-- all are: the file is an H file, or there is such a row. Those that touch a point are: there is none
abbrev pub AreShown : System → Rays → Type 0
AreShown sys All = (sys.kind ≡ H) ⊎ HasLinearPoint sys
AreShown sys Touching = (sys.kind ≡ V) × (HasLinearPoint sys → ⊥)
