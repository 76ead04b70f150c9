-- Which cells of a column are negative, as the bits of a number.
use Rattle.std.specs.Prelude.{ℕ, zero, suc, ◌+◌, ◌*◌, pos, int_lt, Bool, if◌then◌else◌}
use Rattle.std.specs.List.{slice_index_or}
use Rattle.dictionary.specs.Views.{Dictionary, number}

-- whether a test holds of the n numbers from i on: the lowest bit is that of i
abbrev pub bits_of : (ℕ → Bool) → ℕ → ℕ → ℕ
bits_of test i zero = 0
bits_of test i (suc n) = (if test i then 1 else 0) + 2 * bits_of test (suc i) n

-- the number in column j of the label at a place of the rows is negative
abbrev pub negative_in : Dictionary → ℕ → ℕ → Bool
negative_in d j i = int_lt (number d (slice_index_or d.rows i 0) j) (pos 0)
