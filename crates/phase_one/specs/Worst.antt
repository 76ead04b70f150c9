-- The row of the first exchange.
use Rattle.std.specs.Prelude.{◌≡◌, ◌⊎◌, ℕ, ◌≤◌, pos, ◌<ℤ◌}
use Rattle.poly_model.specs.Spaces.{Space}
use Rattle.poly_model.specs.Dictionaries.{Table}
use Rattle.poly_model.specs.Tree.{IsRowOutside}
use Rattle.poly_model.specs.PhaseOne.{IsFirstWorst}
use Rattle.dictionary.specs.Views.{Dictionary, table_of}

-- a row outside the cobasis with a negative constant
pub record IsNegativeRow (d : Dictionary) (i : ℕ) : Type 0 where
  pub row : IsRowOutside d.labels d.key i
  pub negative : Table.constant (table_of d) i <ℤ pos 0

abbrev pub NoneNegative : Dictionary → Type 0
NoneNegative d = (i : ℕ) → IsNegativeRow d i → ⊥

-- in each space with these labels it is the row that takes the place of t
abbrev pub IsWorstRow : Dictionary → ℕ → Type 0
IsWorstRow d r = (space : Space) → d.labels ≡ space.labels → IsFirstWorst space d.key (table_of d) r

-- the constant of row r is less than that of row i, or they are equal and r is not greater
abbrev pub IsWorse : Dictionary → ℕ → ℕ → Type 0
IsWorse d r i =
    (Table.constant (table_of d) r <ℤ Table.constant (table_of d) i)
    ⊎ ((Table.constant (table_of d) r ≡ Table.constant (table_of d) i) × (r ≤ i))
