-- The vectors of a cone, and which rows are tight at them.
use Rattle.std.specs.Prelude.{◌≡◌, ℕ, zero, suc, cond, ℤ, pos, ◌≤ℤ◌, [], ◌∷◌, length}
use Rattle.std.specs.List.{All, slice_index_or}
use Rattle.poly_num.specs.Vectors.{Vector, ◌·◌}
use Rattle.poly_model.specs.Systems.{Row, System}

-- entry j, counted from 0; past the end it is 0
abbrev pub at : ℕ → Vector → ℤ
at j v = slice_index_or v j (pos 0)

-- the form that reads entry j
abbrev pub coordinate : ℕ → Vector
coordinate zero = pos 1 ∷ []
coordinate (suc j) = pos 0 ∷ coordinate j

-- the row's product with y is 0 where the row is linear, and at least 0 elsewhere
abbrev pub Meets : Vector → Row → Type 0
Meets y row = cond row.linear (row.entries · y ≡ pos 0) (pos 0 ≤ℤ (row.entries · y))

-- y has n entries and meets every row
pub record IsInCone (sys : System) (y : Vector) : Type 0 where
  pub width : length y ≡ sys.n
  pub meets : All (Meets y) sys.rows

-- the row's product with y is 0
abbrev pub IsTight : Vector → Row → Type 0
IsTight y row = row.entries · y ≡ pos 0
