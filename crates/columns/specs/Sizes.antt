-- Cells that are known to be small, or halves.
use Rattle.std.specs.Prelude.{ℕ, ℤ, ◌<◌, pos, List}
use Rattle.std.specs.List.{slice_index_or}
use Rattle.poly_num.specs.Halves.{IsHalf}
use Rattle.words.specs.Small.{IsSmall}
use Rattle.columns.specs.Cells.{cell_at}
use Rattle.columns.specs.declared.size.Size.{Size}
use Rattle.columns.specs.declared.size.Size.TheVariants.{Words, Halves, Small}

-- the number is as small as the size says; of words nothing is said
abbrev pub IsOf : Size → ℤ → Type 0
IsOf Words z = Unit {0}
IsOf Halves z = IsHalf z
IsOf Small z = IsSmall z

-- the first n numbers are
abbrev pub AreOf : Size → ℕ → List ℤ → Type 0
AreOf size n numbers = (k : ℕ) → k < n → IsOf size (slice_index_or numbers k (pos 0))

-- the first n cells of column j are
abbrev pub IsColumnOfSize : Size → ℕ → ℕ → ℕ → List ℤ → Type 0
IsColumnOfSize size height j n cells = (i : ℕ) → i < n → IsOf size (cell_at height cells i j)
