-- The vector of a column of a dictionary, and where it is shown.
use Rattle.std.specs.Prelude.{◌≡◌, ◌⊎◌, ℕ, suc, ◌<◌, ◌≤◌, ◌==◌, true, if◌then◌else◌, ℤ, pos, map, length}
use Rattle.std.specs.List.{Contains, range_with_len}
use Rattle.poly_num.specs.Vectors.{Vector}
use Rattle.poly_num.specs.Divisors.{quotients, gcd_of_all}
use Rattle.poly_model.specs.declared.kind.Kind.{Kind}
use Rattle.poly_model.specs.declared.kind.Kind.TheVariants.{H, V}
use Rattle.poly_model.specs.Systems.{System, row_of}
use Rattle.poly_model.specs.Spaces.{is_member}
use Rattle.poly_model.specs.Labels.{constant_label, coordinate_label}
use Rattle.poly_model.specs.Dictionaries.{Table}
use Rattle.dictionary.specs.Views.{Dictionary, number, table_of}

-- col is the label of a column: of one of the cobasis, or of that of the constants
abbrev pub IsColumn : Dictionary → ℕ → Type 0
IsColumn d col = (col ≡ constant_label) ⊎ Contains d.key col

-- the number of a label in the column: its constant, or its entry there
abbrev pub number_in : Dictionary → ℕ → ℕ → ℤ
number_in d col i = if col == constant_label then Table.constant (table_of d) i else Table.entry (table_of d) i col

-- column j of the cells is that of a label, or of the constants
pub record IsPlaceOf (d : Dictionary) (col j : ℕ) : Type 0 where
  pub within : j < suc (length d.columns)
  pub numbers : (i : ℕ) → number d i j ≡ number_in d col i

-- the number of a coordinate that is no label, which is that at infinity: the denominator at the point,
-- 0 in other columns
abbrev pub infinity_in : Dictionary → ℕ → ℤ
infinity_in d col = if col == constant_label then d.denominator else pos 0

-- the number of coordinate j in the column
abbrev pub coordinate_in : Dictionary → ℕ → ℕ → ℤ
coordinate_in d col j =
    if is_member (coordinate_label j) d.labels then number_in d col (coordinate_label j) else infinity_in d col

-- the numbers of the first n coordinates in the column
abbrev pub column_of : Dictionary → ℕ → ℕ → Vector
column_of d col n = map (coordinate_in d col) (range_with_len 0 n)

-- the same without common divisor
abbrev pub primitive_column : Dictionary → ℕ → ℕ → Vector
primitive_column d col n = quotients (column_of d col n) (pos (gcd_of_all (column_of d col n)))

-- each point row has its number as a label of the dictionary
abbrev pub HasPointRows : System → Dictionary → Type 0
HasPointRows sys d =
    (i : ℕ) → 0 < i → i ≤ length sys.rows → (row_of sys.rows i).point ≡ true → Contains d.labels i

-- row i is a point whose entry in the column is 0
pub record IsTouchedAt (sys : System) (d : Dictionary) (col i : ℕ) : Type 0 where
  pub from_one : 0 < i
  pub within : i ≤ length sys.rows
  pub point : (row_of sys.rows i).point ≡ true
  pub zero : Table.entry (table_of d) i col ≡ pos 0

-- of an H file every column is shown, of a V file those that touch some point row
abbrev pub IsShownAs : Kind → System → Dictionary → ℕ → Type 0
IsShownAs H sys d col = Unit {0}
IsShownAs V sys d col = (i : ℕ) × IsTouchedAt sys d col i

abbrev pub IsShownColumn : System → Dictionary → ℕ → Type 0
IsShownColumn sys d col = IsShownAs sys.kind sys d col
