-- A cone that is given by rows, and its corners.
use Rattle.std.specs.Prelude.{◌≡◌, ℕ, pos, ◌≤ℤ◌, List, length}
use Rattle.std.specs.List.{AllByRecursion}
use Rattle.poly_num.specs.Vectors.{Vector, ◌·◌, IsZero, IsPrimitive, IsMultipleOf}
use Rattle.poly_model.specs.Independence.{Vanish}

-- y is a vector of the cone: of width n, the fixed rows 0 at it, and the other rows at least 0
pub record IsInConeOf (n : ℕ) (fixed rows : List Vector) (y : Vector) : Type 0 where
  pub width : length y ≡ n
  pub vanishing : Vanish fixed y
  pub nonnegative : AllByRecursion (λ g. pos 0 ≤ℤ (g · y)) rows

-- the cone holds no line: only zero is 0 on all rows
abbrev pub IsPointed : ℕ → List Vector → List Vector → Type 0
IsPointed n fixed rows = (y : Vector) → length y ≡ n → Vanish fixed y → Vanish rows y → IsZero y

-- the rows that are tight at y are 0 at z too
abbrev pub IsOnTight : Vector → List Vector → Vector → Type 0
IsOnTight y rows z = AllByRecursion (λ g. g · y ≡ pos 0 → g · z ≡ pos 0) rows

-- only multiples of y are 0 on the fixed rows and on those tight at y
abbrev pub IsAloneOnTight : ℕ → List Vector → List Vector → Vector → Type 0
IsAloneOnTight n fixed rows y =
    (z : Vector) → length z ≡ n → Vanish fixed z → IsOnTight y rows z → IsMultipleOf y z

-- y is primitive, in the cone, and alone on what is tight at it
pub record IsCorner (n : ℕ) (fixed rows : List Vector) (y : Vector) : Type 0 where
  pub primitive : IsPrimitive y
  pub in_cone : IsInConeOf n fixed rows y
  pub alone : IsAloneOnTight n fixed rows y
