-- Rows of a listing that were written, how many they are, and how large their entries are together.
use Rattle.std.specs.Prelude.{◌≡◌, ℕ, ◌+◌, ◌-◌, ◌^◌, ◌%◌, min, List, length, Option, unsigned_abs}
use Rattle.std.specs.List.{flat_map, sum_by}
use Rattle.std.specs.Io.KnownBytes.{Appends}
use Rattle.poly_num.specs.Vectors.{Vector}
use Rattle.poly_model.specs.declared.kind.Kind.{Kind}
use Rattle.poly_model.specs.ListingText.{row_text}
use Rattle.row_printer.specs.declared.tally.Tally.{Tally}

-- a count of rows after so many more; it stands still at 2^64 - 1
abbrev pub counted : ℕ → ℕ → ℕ
counted rows more = min (rows + more) (2 ^ 64 - 1)

-- the sum of the sizes of the entries of a vector
abbrev pub entries_size : Vector → ℕ
entries_size v = sum_by unsigned_abs v

-- the sum of the sizes of all entries of these vectors
abbrev pub sum_of_sizes : List Vector → ℕ
sum_of_sizes shown = sum_by entries_size shown

-- the rows of these vectors were counted; of the sizes of their entries the sum is known modulo 2^64
pub record Counts (before now : Tally) (shown : List Vector) : Type 0 where
  pub rows : now.rows ≡ counted before.rows (length shown)
  pub sum : now.sum ≡ (before.sum + sum_of_sizes shown) % 2 ^ 64

-- the rows of these vectors were written, and are counted
pub record HasWritten (kind : Kind) (old new : Option (List ℕ)) (before now : Tally) (shown : List Vector) : Type 0 where
  pub bytes : Appends old new (flat_map (row_text kind) shown)
  pub counts : Counts before now shown
