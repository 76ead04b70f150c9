-- The ray test, column by column.
use Rattle.std.specs.Prelude.{◌≢◌, ℕ, pos, List, map}
use Rattle.std.specs.List.{Contains, filter}
use Rattle.std.specs.Ordering.{int_eq}
use Rattle.poly_model.specs.Dictionaries.{Table}
use Rattle.poly_model.specs.LexOrder.{IsPositive, order, backwards}
use Rattle.dictionary.specs.Views.{Dictionary, table_of}

-- of the rows that are 0 in the column of s and not 0 in that of j, the greatest is positive there
abbrev pub IsPositiveOnZeros : Dictionary → List ℕ → ℕ → ℕ → Type 0
IsPositiveOnZeros d root s j =
    IsPositive (map (λ q. Table.entry (table_of d) q j)
    (filter (λ q. int_eq (Table.entry (table_of d) q s) (pos 0)) (backwards (order d.labels root))))

-- so it is, if j is another label
abbrev pub IsOtherPositive : Dictionary → List ℕ → ℕ → ℕ → Type 0
IsOtherPositive d root s j = j ≢ s → IsPositiveOnZeros d root s j

-- so it is for each label of the cobasis
abbrev pub AreOthersPositive : Dictionary → List ℕ → ℕ → Type 0
AreOthersPositive d root s = (j : ℕ) → Contains d.key j → IsOtherPositive d root s j
