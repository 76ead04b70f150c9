-- What the number of a label says: 0 is the extra variable t, the numbers below 8192 are rows, 8192 + j is coordinate j.
use Rattle.std.specs.Prelude.{ℕ, ◌+◌, ◌-◌, ◌<◌, ◌≤◌, Bool, not, nat_lt}
use Rattle.poly_model.specs.declared.label.TheConstants as constants

-- the label of the extra variable
abbrev pub extra_label : ℕ
extra_label = 0

-- from this number on labels are those of coordinates, below it those of rows
abbrev pub coordinates_from : ℕ
coordinates_from = constants.COORDINATES_FROM

-- the label of the column of constants, which no cobasis has
abbrev pub constant_label : ℕ
constant_label = constants.CONSTANT

-- a row's label; t counts as row 0
abbrev pub IsRow : ℕ → Type 0
IsRow k = k < coordinates_from

-- a coordinate's label; that of the constants counts as one
abbrev pub IsCoordinate : ℕ → Type 0
IsCoordinate k = coordinates_from ≤ k

abbrev pub is_row : ℕ → Bool
is_row k = nat_lt k coordinates_from

abbrev pub is_coordinate : ℕ → Bool
is_coordinate k = not (is_row k)

-- the label of coordinate j
abbrev pub coordinate_label : ℕ → ℕ
coordinate_label j = coordinates_from + j

-- which coordinate a label is
abbrev pub coordinate_index : ℕ → ℕ
coordinate_index k = k - coordinates_from
