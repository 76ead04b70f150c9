-- The rows of a system by what they are: fixed, others, and those that are 0 on the face of a vector.
use Rattle.std.specs.Prelude.{◌≡◌, ℕ, Bool, true, false, zero, suc, not, cond, ℤ, pos, negsuc, List, [], ◌∷◌, ◌++◌, map, length}
use Rattle.poly_num.specs.Vectors.{Vector, ◌·◌}
use Rattle.poly_model.specs.Independence.{IsFirstBasis, taken}
use Rattle.poly_model.specs.Systems.{Row, System}
use Rattle.poly_model.specs.Cones.{coordinate}
use Rattle.poly_model.specs.Spaces.{linear_rows}

-- the number is 0
abbrev pub is_zero : ℤ → Bool
is_zero (pos zero) = true
is_zero (pos (suc n)) = false
is_zero (negsuc n) = false

-- the entries of the rows that pass the test
abbrev pub entries_where : (Row → Bool) → List Row → List Vector
entries_where test [] = []
entries_where test (row ∷ rows) =
    let others = entries_where test rows in cond (test row) (row.entries ∷ others) others

-- the rows whose product with y is 0
abbrev pub tight_rows : Vector → List Row → List Vector
tight_rows y rows = entries_where (λ row. is_zero (row.entries · y)) rows

-- the coordinates of the free columns, and the linear rows
abbrev pub fixed_rows : List ℕ → System → List Vector
fixed_rows columns sys = map coordinate columns ++ linear_rows sys.rows

-- the rows that are not linear
abbrev pub other_rows : System → List Vector
other_rows sys = entries_where (λ row. not row.linear) sys.rows

-- the fixed rows, and the rows that are tight at y
abbrev pub face_rows : List ℕ → System → Vector → List Vector
face_rows columns sys y = fixed_rows columns sys ++ tight_rows y sys.rows

-- the first basis of the rows has so many rows
pub record HasRank (n : ℕ) (rows : List Vector) (rank : ℕ) : Type 0 where
  pub marks : List Bool
  pub first : IsFirstBasis n [] rows marks
  pub count : length (taken [] rows marks) ≡ rank
