-- The labels inside a cobasis and outside.
use Rattle.std.specs.Prelude.{◌≡◌, ◌≢◌, ℕ, pos, List}
use Rattle.std.specs.List.{Contains}
use Rattle.poly_model.specs.Dictionaries.{Table}
use Rattle.dictionary.specs.Views.{Dictionary, table_of}

-- a label of the cobasis is the denominator in its own column, and 0 in the others
pub record HasUnits (d : Dictionary) : Type 0 where
  pub own : (k : ℕ) → Contains d.key k → Table.entry (table_of d) k k ≡ d.denominator
  pub other : (k s : ℕ) → Contains d.key k → Contains d.key s → k ≢ s → Table.entry (table_of d) k s ≡ pos 0

-- these are the labels outside the cobasis
pub record AreOutside (d : Dictionary) (rows : List ℕ) : Type 0 where
  pub there : (i : ℕ) → Contains d.labels i → (Contains d.key i → ⊥) → Contains rows i
  pub label : (i : ℕ) → Contains rows i → Contains d.labels i
  pub outside : (i : ℕ) → Contains rows i → Contains d.key i → ⊥
