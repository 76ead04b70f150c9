-- The columns that are combinations of earlier ones, and the lines of a cone.
use Rattle.std.specs.Prelude.{◌≡◌, ◌≢◌, ◌↔◌, ℕ, ◌<◌, ℤ, pos, ◌*ℤ◌, ◌<ℤ◌, List, [], ◌∷◌, length}
use Rattle.std.specs.List.{All, Contains}
use Rattle.poly_num.specs.Vectors.{Vector, ◌·◌, IsPrimitive}
use Rattle.poly_model.specs.Keys.{IsAscending}
use Rattle.poly_model.specs.Systems.{System}
use Rattle.poly_model.specs.Cones.{at, IsTight}

-- a multiple of column j, by p, is one and the same combination of the earlier columns in each row
pub record IsFree (sys : System) (j : ℕ) : Type 0 where
  pub within : j < sys.n
  pub factor : ℤ
  pub weights : Vector
  pub nonzero : factor ≢ pos 0
  pub earlier : length weights ≡ j
  pub combines : All (λ row. factor *ℤ at j row.entries ≡ weights · row.entries) sys.rows

-- y is 0 at each free column
abbrev pub IsZeroAtFree : System → Vector → Type 0
IsZeroAtFree sys y = (j : ℕ) → IsFree sys j → at j y ≡ pos 0

-- the vector of the free column j: every row is 0 on it, and it is positive there and 0 at the other free columns
pub record IsLine (sys : System) (j : ℕ) (y : Vector) : Type 0 where
  pub free : IsFree sys j
  pub width : length y ≡ sys.n
  pub primitive : IsPrimitive y
  pub vanishing : All (IsTight y) sys.rows
  pub here : pos 0 <ℤ at j y
  pub elsewhere : (k : ℕ) → IsFree sys k → k ≢ j → at k y ≡ pos 0

-- the columns are the free ones, ascending
pub record AreFreeColumns (sys : System) (columns : List ℕ) : Type 0 where
  pub ascending : IsAscending columns
  pub exactly : (j : ℕ) → IsFree sys j ↔ Contains columns j

-- each vector is the line of the column that stands at its place
abbrev pub AreLinesOf : System → List ℕ → List Vector → Type 0
AreLinesOf sys [] [] = Unit {0}
AreLinesOf sys (j ∷ js) (y ∷ ys) = IsLine sys j y × AreLinesOf sys js ys
AreLinesOf sys [] (y ∷ ys) = ⊥
AreLinesOf sys (j ∷ js) [] = ⊥

-- the lines, one for each free column, by ascending column
pub record AreLines (sys : System) (lines : List Vector) : Type 0 where
  pub columns : List ℕ
  pub free : AreFreeColumns sys columns
  pub each : AreLinesOf sys columns lines
