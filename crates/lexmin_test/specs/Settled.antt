-- The point test, row by row and column by column.
use Rattle.std.specs.Prelude.{◌≡◌, ℕ, pos, List}
use Rattle.std.specs.List.{Contains}
use Rattle.poly_model.specs.Dictionaries.{Table}
use Rattle.poly_model.specs.LexOrder.{IsEarlier}
use Rattle.poly_model.specs.Tree.{IsRowOutside}
use Rattle.dictionary.specs.Views.{Dictionary, table_of}

-- where row k is earlier than row i, row i is 0 in its column
abbrev pub IsZeroIfEarlier : Dictionary → List ℕ → ℕ → ℕ → Type 0
IsZeroIfEarlier d root i k = IsEarlier d.labels root k i → Table.entry (table_of d) i k ≡ pos 0

-- so it is for each row of the cobasis
abbrev pub IsZeroBefore : Dictionary → List ℕ → ℕ → Type 0
IsZeroBefore d root i = (k : ℕ) → Contains d.key k → IsZeroIfEarlier d root i k

-- so it is where row i is outside the cobasis and its constant is 0
abbrev pub RowShowsPoint : Dictionary → List ℕ → ℕ → Type 0
RowShowsPoint d root i =
    IsRowOutside d.labels d.key i → Table.constant (table_of d) i ≡ pos 0 → IsZeroBefore d root i
