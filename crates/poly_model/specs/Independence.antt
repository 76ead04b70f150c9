-- Which rows depend on others, by the vectors at which they are 0; the first basis of a list of rows.
use Rattle.std.specs.Prelude.{◌≡◌, ◌≢◌, ℕ, Bool, true, false, pos, List, [], ◌∷◌, length}
use Rattle.std.specs.List.{AllByRecursion}
use Rattle.poly_num.specs.Vectors.{Vector, ◌·◌, IsMultipleOf}

-- each of the rows is 0 at y
abbrev pub Vanish : List Vector → Vector → Type 0
Vanish rows y = AllByRecursion (λ g. g · y ≡ pos 0) rows

-- g depends on the rows: it is 0 at every vector of width n at which they are 0
abbrev pub Follows : ℕ → List Vector → Vector → Type 0
Follows n rows g = (y : Vector) → length y ≡ n → Vanish rows y → g · y ≡ pos 0

-- g is independent of the rows: at some vector of width n they are 0 and g is not
abbrev pub IsNew : ℕ → List Vector → Vector → Type 0
IsNew n rows g = (z : Vector) × (length z ≡ n) × Vanish rows z × (g · z ≢ pos 0)

-- a mark for each row: a row is marked if it is new over `before` and the rows marked before it, and
-- not marked if it follows from them
abbrev pub IsFirstBasis : ℕ → List Vector → List Vector → List Bool → Type 0
IsFirstBasis n before [] [] = Unit {0}
IsFirstBasis n before (g ∷ gs) (true ∷ ms) = IsNew n before g × IsFirstBasis n (g ∷ before) gs ms
IsFirstBasis n before (g ∷ gs) (false ∷ ms) = Follows n before g × IsFirstBasis n before gs ms
IsFirstBasis n before [] (m ∷ ms) = ⊥
IsFirstBasis n before (g ∷ gs) [] = ⊥

-- the marked rows, the last of them first, and then `before`
abbrev pub taken : List Vector → List Vector → List Bool → List Vector
taken before [] ms = before
taken before (g ∷ gs) [] = before
taken before (g ∷ gs) (true ∷ ms) = taken (g ∷ before) gs ms
taken before (g ∷ gs) (false ∷ ms) = taken before gs ms

-- every vector of width n at which the rows are 0 is a multiple of y
abbrev pub IsAlone : ℕ → List Vector → Vector → Type 0
IsAlone n rows y = (z : Vector) → length z ≡ n → Vanish rows z → IsMultipleOf y z
