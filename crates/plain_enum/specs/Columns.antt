-- What the lister reads off a dictionary: the column of a coordinate, and the signs of the rows in it.
use Rattle.std.specs.Prelude.{◌≡◌, ◌≢◌, ℕ, ◌<◌, ◌≤◌, false, pos, ◌≤ℤ◌, List}
use Rattle.std.specs.List.{Contains}
use Rattle.poly_model.specs.Labels.{IsRow, IsCoordinate, coordinate_index}
use Rattle.poly_model.specs.Systems.{Row, row_of}
use Rattle.poly_model.specs.Spaces.{is_member}
use Rattle.poly_model.specs.Dictionaries.{Table}
use Rattle.dictionary.specs.Views.{Dictionary, table_of}
use Rattle.plain_enum.specs.declared.side.Side.{Side}
use Rattle.plain_enum.specs.declared.side.Side.TheVariants.{Along, Against}

-- the numbers from 1 to `rows` are labels of rows
abbrev pub HasRows : ℕ → Dictionary → Type 0
HasRows rows d = (i : ℕ) → 0 < i → i ≤ rows → Contains d.labels i

-- a coordinate in the cobasis that is not free, at which row i is not 0
pub record IsColumnOf (d : Dictionary) (free : List ℕ) (i k : ℕ) : Type 0 where
  pub inside : Contains d.key k
  pub coordinate : IsCoordinate k
  pub not_free : is_member (coordinate_index k) free ≡ false
  pub nonzero : Table.entry (table_of d) i k ≢ pos 0

-- row i is 0 at every coordinate in the cobasis that is not free
abbrev pub HasNoColumn : Dictionary → List ℕ → ℕ → Type 0
HasNoColumn d free i =
    (k : ℕ) → Contains d.key k → IsCoordinate k → is_member (coordinate_index k) free ≡ false → Table.entry (table_of d) i k ≡ pos 0

-- no row is negative along the column, or none is positive
abbrev pub IsOnSide : Dictionary → ℕ → ℕ → Side → Type 0
IsOnSide d rows col Along = (i : ℕ) → 0 < i → i ≤ rows → pos 0 ≤ℤ Table.entry (table_of d) i col
IsOnSide d rows col Against = (i : ℕ) → 0 < i → i ≤ rows → Table.entry (table_of d) i col ≤ℤ pos 0

-- each of the first `count` rows that is 0 in the column is 0 at each later row of the cobasis that is not linear
abbrev pub IsFirst : List Row → Dictionary → ℕ → ℕ → Type 0
IsFirst rows d count col =
    (i : ℕ) → 0 < i → i ≤ count → Table.entry (table_of d) i col ≡ pos 0 →
    (k : ℕ) → Contains d.key k → IsRow k → (row_of rows k).linear ≡ false → i < k →
    Table.entry (table_of d) i k ≡ pos 0

-- a coordinate in the cobasis that is not free, and no other such one is above it
pub record IsLeftCoordinate (d : Dictionary) (free : List ℕ) (col : ℕ) : Type 0 where
  pub inside : Contains d.key col
  pub coordinate : IsCoordinate col
  pub not_free : is_member (coordinate_index col) free ≡ false
  pub last : (k : ℕ) → Contains d.key k → IsCoordinate k → is_member (coordinate_index k) free ≡ false → k ≤ col

-- every coordinate in the cobasis is free
abbrev pub LeavesNoCoordinate : Dictionary → List ℕ → Type 0
LeavesNoCoordinate d free = (k : ℕ) → Contains d.key k → IsCoordinate k → is_member (coordinate_index k) free ≡ false → ⊥
