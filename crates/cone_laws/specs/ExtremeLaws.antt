-- Extreme vectors, by the rows that are tight at them.
use Rattle.std.specs.Prelude.{◌≡◌, ◌↔◌, ℕ, ◌-◌, List}
use Rattle.std.specs.List.{All}
use Rattle.poly_num.specs.Vectors.{Vector, IsPrimitive}
use Rattle.poly_model.specs.Systems.{System}
use Rattle.poly_model.specs.Cones.{IsInCone, IsTight}
use Rattle.poly_model.specs.FreeColumns.{IsZeroAtFree, AreFreeColumns}
use Rattle.poly_model.specs.Extreme.{IsShown, IsExtreme}
use Rattle.linear_laws.specs.Corners.{IsCorner}
use Rattle.cone_laws.specs.Faces.{fixed_rows, other_rows, face_rows, HasRank}

-- y is primitive, 0 at the free columns and in the cone, its face has rows of rank n - 1, and of a V
-- file some point row is tight at it
pub record IsExtremeByRank (columns : List ℕ) (sys : System) (y : Vector) : Type 0 where
  pub primitive : IsPrimitive y
  pub free : IsZeroAtFree sys y
  pub in_cone : IsInCone sys y
  pub rank : HasRank sys.n (face_rows columns sys y) (sys.n - 1)
  pub shown : IsShown sys.kind sys y

-- a vector is extreme exactly where the rows of its face have rank n - 1
abbrev pub ExtremeByRank : Type 0
ExtremeByRank = (sys : System) (columns : List ℕ) → AreFreeColumns sys columns →
    (y : Vector) → IsExtreme sys y ↔ IsExtremeByRank columns sys y

-- a vector is extreme exactly where it is a corner of the cone of the fixed and the other rows, and of a
-- V file some point row is tight at it
abbrev pub ExtremeIsCorner : Type 0
ExtremeIsCorner = (sys : System) (columns : List ℕ) → AreFreeColumns sys columns →
    (y : Vector) → IsExtreme sys y
    ↔ (IsCorner sys.n (fixed_rows columns sys) (other_rows sys) y × IsShown sys.kind sys y)

-- of two extreme vectors, one is the other where all is tight that is tight at the other
abbrev pub ExtremeIsOneByTightRows : Type 0
ExtremeIsOneByTightRows = (sys : System) (y z : Vector) → IsExtreme sys y → IsExtreme sys z →
    All (λ row. IsTight y row → IsTight z row) sys.rows → z ≡ y
