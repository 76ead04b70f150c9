-- What elimination reads off a dictionary: the coordinates in its cobasis, and the column of a row.
use Rattle.std.specs.Prelude.{◌≡◌, ◌≢◌, ℕ, ◌<◌, pos, List, map}
use Rattle.std.specs.List.{Contains, filter}
use Rattle.poly_num.specs.Vectors.{Vector}
use Rattle.poly_model.specs.Labels.{IsCoordinate, is_coordinate, coordinate_index}
use Rattle.poly_model.specs.Dictionaries.{Table}
use Rattle.dictionary.specs.Views.{Dictionary, table_of}
use Rattle.hull_lift.specs.Facets.{primitive_column}

-- the labels of the coordinates in a key
abbrev pub coordinates_in : List ℕ → List ℕ
coordinates_in key = filter is_coordinate key

-- their columns in the matrix of the rows
abbrev pub columns_in : List ℕ → List ℕ
columns_in key = map coordinate_index (coordinates_in key)

-- the vectors of n entries along the columns of the coordinates in the cobasis, without common divisor
abbrev pub coordinate_vectors : Dictionary → ℕ → List Vector
coordinate_vectors d n = map (λ k. primitive_column d k n) (coordinates_in d.key)

-- the least coordinate in the cobasis at which row i is not 0
pub record IsLeastColumn (d : Dictionary) (i k : ℕ) : Type 0 where
  pub inside : Contains d.key k
  pub coordinate : IsCoordinate k
  pub nonzero : Table.entry (table_of d) i k ≢ pos 0
  pub least : (j : ℕ) → Contains d.key j → IsCoordinate j → j < k → Table.entry (table_of d) i j ≡ pos 0

-- row i is 0 at every coordinate in the cobasis
abbrev pub IsZeroAtCoordinates : Dictionary → ℕ → Type 0
IsZeroAtCoordinates d i = (k : ℕ) → Contains d.key k → IsCoordinate k → Table.entry (table_of d) i k ≡ pos 0
