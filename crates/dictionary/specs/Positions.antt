-- Where the labels of a dictionary stand, its columns, and the last of some labels that is not 0 in a column.
use Rattle.std.specs.Prelude.{◌≡◌, ◌≢◌, ℕ, suc, ◌<◌, ◌≤◌, ◌+◌, ℤ, pos, List, length}
use Rattle.std.specs.List.{Contains, slice_index_or}
use Rattle.poly_model.specs.Labels.{coordinates_from}
use Rattle.poly_model.specs.Limits.{most_columns}
use Rattle.columns.specs.Cells.{place}
use Rattle.linear_laws.specs.Distinct.{AreDistinct}
use Rattle.dictionary_laws.specs.Keys.{place_in}
use Rattle.dictionary.specs.declared.positions.Position.{Position}
use Rattle.dictionary.specs.declared.positions.Position.TheVariants.{Row, Column}
use Rattle.dictionary.specs.Views.{Dictionary, number, column_label}

-- the label is outside the cobasis, and row i of the cells is its
pub record StandsInRow (d : Dictionary) (label i : ℕ) : Type 0 where
  pub within : i < length d.rows
  pub label_is : slice_index_or d.rows i 0 ≡ label
  pub outside : Contains d.key label → ⊥

-- the label is in the cobasis, and column j of the cells is its; column 0 has the constants
pub record StandsInColumn (d : Dictionary) (label j : ℕ) : Type 0 where
  pub behind : 0 < j
  pub within : j < suc (length d.columns)
  pub label_is : column_label d j ≡ label
  pub inside : Contains d.key label

-- the label stands there
abbrev pub IsPosition : Dictionary → ℕ → Position → Type 0
IsPosition d label (Row i) = StandsInRow d label i
IsPosition d label (Column j) = StandsInColumn d label j

-- which row or which column it is
abbrev pub index_of : Position → ℕ
index_of (Row i) = i
index_of (Column j) = j

-- how many labels there can be
abbrev pub label_count : ℕ
label_count = coordinates_from + most_columns

-- these labels have a place in a list of that many
abbrev pub AreBelow : List ℕ → ℕ → Type 0
AreBelow labels n = (l : ℕ) → Contains labels l → l < n

-- each of these labels of rows and of columns stands once, and has a place in a list by labels
pub record StandOnce (rows columns : List ℕ) : Type 0 where
  pub rows_once : AreDistinct rows
  pub columns_once : AreDistinct columns
  pub apart : (l : ℕ) → Contains rows l → Contains columns l → ⊥
  pub rows_below : AreBelow rows label_count
  pub columns_below : AreBelow columns label_count

-- what stands at a label
abbrev pub position_at : List Position → ℕ → Position
position_at positions label = slice_index_or positions label (Row 0)

-- by its label, each of these rows has its number
abbrev pub HaveRows : List ℕ → List Position → Type 0
HaveRows rows positions = (l : ℕ) → Contains rows l → position_at positions l ≡ Row (place_in rows l)

-- by its label, each of these columns has its number, and the first one has 1
abbrev pub HaveColumns : List ℕ → List Position → Type 0
HaveColumns columns positions = (l : ℕ) → Contains columns l → position_at positions l ≡ Column (suc (place_in columns l))

-- the list has the positions of these rows and columns, and room for those of all labels
pub record ArePositions (rows columns : List ℕ) (positions : List Position) : Type 0 where
  pub room : length positions ≡ label_count
  pub in_row : HaveRows rows positions
  pub in_column : HaveColumns columns positions

-- column j: one number for each row, that of the row's label
pub record IsCellColumn (d : Dictionary) (j : ℕ) (cells : List ℤ) : Type 0 where
  pub height : length cells ≡ length d.rows
  pub numbers : (i : ℕ) → i < length d.rows →
      slice_index_or cells i (pos 0) ≡ number d (slice_index_or d.rows i 0) j

-- all cells, one column after the other: so many are there, and which number stands where
pub record AreCells (d : Dictionary) (cells : List ℤ) : Type 0 where
  pub within : (i j : ℕ) → i < length d.rows → j < suc (length d.columns) → place (length d.rows) i j < length cells
  pub numbers : (i j : ℕ) → i < length d.rows → j < suc (length d.columns) →
      slice_index_or cells (place (length d.rows) i j) (pos 0) ≡ number d (slice_index_or d.rows i 0) j

-- from place n on, the numbers of these labels are 0 in column j
abbrev pub AreZeroFrom : Dictionary → List ℕ → ℕ → ℕ → Type 0
AreZeroFrom d order j n = (m : ℕ) → n ≤ m → m < length order → number d (slice_index_or order m 0) j ≡ pos 0

-- place n has the last of these labels whose number in column j is not 0
pub record IsLead (d : Dictionary) (order : List ℕ) (j n : ℕ) : Type 0 where
  pub within : n < length order
  pub nonzero : number d (slice_index_or order n 0) j ≢ pos 0
  pub later : AreZeroFrom d order j (suc n)
