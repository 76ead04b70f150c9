-- Extreme vectors, and which cones are feasible.
use Rattle.std.specs.Prelude.{◌≡◌, ◌≢◌, ℕ, ◌<◌, true, pos, ◌<ℤ◌, List, [], length}
use Rattle.std.specs.List.{All, Contains, slice_index_or}
use Rattle.poly_num.specs.Vectors.{Vector, IsPrimitive, IsMultipleOf}
use Rattle.poly_model.specs.declared.kind.Kind.{Kind}
use Rattle.poly_model.specs.declared.kind.Kind.TheVariants.{H, V}
use Rattle.poly_model.specs.Systems.{Row, System}
use Rattle.poly_model.specs.Cones.{at, IsInCone, IsTight}
use Rattle.poly_model.specs.FreeColumns.{IsZeroAtFree}

-- z is 0 at the free columns, on the linear rows and on the rows tight at y
pub record IsOnFace (sys : System) (y z : Vector) : Type 0 where
  pub width : length z ≡ sys.n
  pub free : IsZeroAtFree sys z
  pub linear : All (λ row. row.linear ≡ true → IsTight z row) sys.rows
  pub tight : All (λ row. IsTight y row → IsTight z row) sys.rows

-- some point row is tight at y
pub record TouchesPoint (sys : System) (y : Vector) : Type 0 where
  pub row : Row
  pub within : Contains sys.rows row
  pub point : row.point ≡ true
  pub tight : IsTight y row

-- of an H file every extreme vector is shown, of a V file those that some point row touches
abbrev pub IsShown : Kind → System → Vector → Type 0
IsShown H sys y = Unit {0}
IsShown V sys y = TouchesPoint sys y

-- y is primitive, 0 at the free columns and in the cone, all of its face is multiples of y, and it is shown
pub record IsExtreme (sys : System) (y : Vector) : Type 0 where
  pub primitive : IsPrimitive y
  pub free : IsZeroAtFree sys y
  pub in_cone : IsInCone sys y
  pub alone : (z : Vector) → IsOnFace sys y z → IsMultipleOf y z
  pub shown : IsShown sys.kind sys y

-- some vector of the cone has a positive first entry
pub record HasPoint (sys : System) : Type 0 where
  pub vector : Vector
  pub in_cone : IsInCone sys vector
  pub positive : pos 0 <ℤ at 0 vector

-- a V file is feasible; an H file where its cone has a vector with a positive first entry
abbrev pub IsFeasibleAs : Kind → System → Type 0
IsFeasibleAs H sys = HasPoint sys
IsFeasibleAs V sys = Unit {0}

abbrev pub IsFeasible : System → Type 0
IsFeasible sys = IsFeasibleAs sys.kind sys

-- the vectors are the extreme ones, each once
pub record AreExtreme (sys : System) (shown : List Vector) : Type 0 where
  pub once : (i j : ℕ) → i < j → j < length shown → slice_index_or shown i [] ≢ slice_index_or shown j []
  pub only : All (IsExtreme sys) shown
  pub every : (y : Vector) → IsExtreme sys y → Contains shown y
