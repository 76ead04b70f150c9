-- Free columns of a list of rows, and their lines.
use Rattle.std.specs.Prelude.{◌≡◌, ◌≢◌, ◌↔◌, ℕ, ◌<◌, ℤ, pos, ◌*ℤ◌, ◌<ℤ◌, List, ◌++◌, length}
use Rattle.std.specs.List.{AllByRecursion, Contains}
use Rattle.poly_num.specs.Vectors.{Vector, ◌·◌, IsPrimitive}
use Rattle.poly_model.specs.Keys.{IsAscending}
use Rattle.poly_model.specs.Independence.{Vanish}
use Rattle.linear_laws.specs.Frames.{Column, rows_of, IsFrame}
use Rattle.poly_model.specs.Cones.{at}
use Rattle.linear_laws.specs.Slots.{AreSlots}

-- column j is a combination of the earlier ones: a multiple of entry j, by `factor`, is one and the
-- same combination of the earlier entries in each row
pub record IsFreeColumn (n : ℕ) (rows : List Vector) (j : ℕ) : Type 0 where
  pub within : j < n
  pub factor : ℤ
  pub weights : Vector
  pub nonzero : factor ≢ pos 0
  pub earlier : length weights ≡ j
  pub combines : AllByRecursion (λ g. factor *ℤ at j g ≡ weights · g) rows

-- the columns are the free ones, ascending
pub record AreFreeColumnsOf (n : ℕ) (rows : List Vector) (columns : List ℕ) : Type 0 where
  pub ascending : IsAscending columns
  pub exactly : (j : ℕ) → IsFreeColumn n rows j ↔ Contains columns j

-- the line of the free column j: the primitive vector at which the rows are 0, and that is positive
-- at j and 0 at the other free columns
pub record IsLineOf (n : ℕ) (rows : List Vector) (j : ℕ) (y : Vector) : Type 0 where
  pub free : IsFreeColumn n rows j
  pub width : length y ≡ n
  pub primitive : IsPrimitive y
  pub vanishing : Vanish rows y
  pub here : pos 0 <ℤ at j y
  pub elsewhere : (k : ℕ) → IsFreeColumn n rows k → k ≢ j → at k y ≡ pos 0

-- what elimination of the rows leaves, if it exchanges each for the least coordinate at which it is
-- not 0: a frame of slots of the coordinates `columns`, ascending, and of rows that are 0 at the
-- same vectors as the given ones
pub record LeavesSlots (n : ℕ) (rows : List Vector) (columns : List ℕ) (D : ℤ)
    (slots rest : List Column) : Type 0 where
  pub frame : IsFrame n D (slots ++ rest)
  pub ascending : IsAscending columns
  pub slots_of : AreSlots columns slots
  pub same : (y : Vector) → length y ≡ n → Vanish (rows_of rest) y ↔ Vanish rows y
