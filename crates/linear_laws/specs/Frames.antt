-- Frames: rows with dual vectors, from which the value of every form at every vector can be read.
-- A dictionary of a cobasis is the frame of the cobasis' rows.
use Rattle.std.specs.Prelude.{◌≡◌, ◌≢◌, ℕ, ℤ, pos, neg_ℤ, ◌+ℤ◌, ◌*ℤ◌, List, [], ◌∷◌, length, map}
use Rattle.std.specs.List.{AllByRecursion}
use Rattle.poly_num.specs.Vectors.{Vector, ◌·◌, scale, sum_of}
use Rattle.poly_model.specs.Independence.{Vanish}

-- a row, which is a form, and its dual vector; the entry of a form g in the column is g · dual
pub record Column : Type 0 where
  pub row : Vector
  pub dual : Vector

-- the rows of the columns
abbrev pub rows_of : List Column → List Vector
rows_of cs = map (λ c. c.row) cs

-- the sum over the columns of the entry of g times the value of the row at y
abbrev pub expand : List Column → Vector → Vector → ℤ
expand [] g y = pos 0
expand (c ∷ cs) g y = (g · c.dual) *ℤ (c.row · y) +ℤ expand cs g y

-- the row of each of the two columns is 0 at the dual vector of the other
abbrev pub AreApart : Column → Column → Type 0
AreApart c e = (c.row · e.dual ≡ pos 0) × (e.row · c.dual ≡ pos 0)

-- each row is D at its own dual vector and 0 at the others
abbrev pub AreDual : ℤ → List Column → Type 0
AreDual D [] = Unit {0}
AreDual D (c ∷ cs) = (c.row · c.dual ≡ D) × AllByRecursion (AreApart c) cs × AreDual D cs

-- y has width n, and the fixed rows are 0 at it
abbrev pub IsVectorOn : ℕ → List Vector → Vector → Type 0
IsVectorOn n fixed y = (length y ≡ n) × Vanish fixed y

-- a frame, over the denominator D, of the space of the vectors of width n at which the fixed rows
-- are 0: the dual vectors lie in the space, and D times the value of a form at a vector of it is the
-- sum over the columns
pub record IsFrameOn (n : ℕ) (fixed : List Vector) (D : ℤ) (cs : List Column) : Type 0 where
  pub nonzero : D ≢ pos 0
  pub inside : AllByRecursion (λ c. IsVectorOn n fixed c.dual) cs
  pub duals : AreDual D cs
  pub expands : (g y : Vector) → IsVectorOn n fixed y → D *ℤ (g · y) ≡ expand cs g y

-- a frame of the space of all vectors of width n
abbrev pub IsFrame : ℕ → ℤ → List Column → Type 0
IsFrame n D cs = IsFrameOn n [] D cs

-- the row of each column is 0 at y
abbrev pub RowsVanish : List Column → Vector → Type 0
RowsVanish cs y = AllByRecursion (λ c. c.row · y ≡ pos 0) cs

-- the entry of g in each column is 0
abbrev pub EntriesVanish : Vector → List Column → Type 0
EntriesVanish g cs = AllByRecursion (λ c. g · c.dual ≡ pos 0) cs

-- the column with p times its dual vector
abbrev pub scaled : ℤ → Column → Column
scaled p c = record { row = c.row; dual = scale p c.dual }

-- another column after a pivot on g, whose entry at the exchanged dual vector z is e
abbrev pub moved : Vector → ℤ → Vector → Column → Column
moved g e z c =
    record { row = c.row; dual = sum_of (scale e c.dual) (scale (neg_ℤ (g · c.dual)) z) }

-- the columns after a pivot, over D, on g in the first column c
abbrev pub pivoted : ℤ → Vector → Column → List Column → List Column
pivoted D g c cs =
    record { row = g; dual = scale D c.dual } ∷ map (moved g (g · c.dual) c.dual) cs
