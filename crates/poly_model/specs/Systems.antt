-- Polyhedra as files give them, and the rows of their cones.
use Rattle.std.specs.Prelude.{ℕ, ◌-◌, Bool, true, false, if◌then◌else◌, pos, int_lt, List, [], ◌∷◌, ◌++◌, map, replicate, slice_set}
use Rattle.std.specs.List.{list_any, range_with_len, slice_index_or}
use Rattle.poly_num.specs.Vectors.{Vector}
use Rattle.poly_model.specs.declared.kind.Kind.{Kind}
use Rattle.poly_model.specs.declared.kind.Kind.TheVariants.{H, V}

-- a row of a file: of an H file `b + a · x >= 0`, where it is linear `= 0`; of a V file a point, a ray, or a line
pub record FileRow : Type 0 where
  pub entries : Vector
  pub linear : Bool

-- stands for a row that is not there
abbrev pub no_file_row : FileRow
no_file_row = record { entries = []; linear = false }

-- what a file describes: rows of n whole numbers
pub record Polyhedron : Type 0 where
  pub kind : Kind
  pub n : ℕ
  pub rows : List FileRow
  -- a line `nonnegative` stands in the file: of an H file no coordinate is negative
  pub nonnegative : Bool
  -- the bytes that it was read from
  pub text : List ℕ

-- a row of a cone: a vector of the cone has the product 0 with it where it is linear, and at least 0 elsewhere
pub record Row : Type 0 where
  pub entries : Vector
  pub linear : Bool
  -- a point of a V file
  pub point : Bool

-- stands for a row that is not there
abbrev pub no_row : Row
no_row = record { entries = []; linear = false; point = false }

-- a cone in n coordinates, and the kind of the file that it is of
pub record System : Type 0 where
  pub kind : Kind
  pub n : ℕ
  pub rows : List Row

-- row i of a file, counted from 1; the number 0 is that of no row
abbrev pub file_row : Polyhedron → ℕ → FileRow
file_row p i = slice_index_or (no_file_row ∷ p.rows) i no_file_row

-- row i of a cone, counted from 1; the number 0 is that of no row
abbrev pub row_of : List Row → ℕ → Row
row_of rows i = slice_index_or (no_row ∷ rows) i no_row

-- `1 0 .. 0`, of n entries: the row at infinity of an H file, the origin of a V file
abbrev pub first_unit : ℕ → Vector
first_unit n = pos 1 ∷ replicate (n - 1) (pos 0)

-- a row whose first entry is positive: in a V file, a point
abbrev pub starts_positive : Vector → Bool
starts_positive [] = false
starts_positive (x ∷ v) = int_lt (pos 0) x

-- the row, marked as a point where it is one
abbrev pub cone_row : Kind → FileRow → Row
cone_row H row = record { entries = row.entries; linear = row.linear; point = false }
cone_row V row = record { entries = row.entries; linear = row.linear; point = starts_positive row.entries }

abbrev pub is_point_row : Row → Bool
is_point_row row = row.point

-- the row behind those: for H the row at infinity, for V the origin, where no row is a point
abbrev pub added_row : Kind → ℕ → List Row → List Row
added_row H n rows = record { entries = first_unit n; linear = false; point = false } ∷ []
added_row V n rows =
    if list_any is_point_row rows then [] else record { entries = first_unit n; linear = false; point = true } ∷ []

-- the row `x_j >= 0`, of n entries: 0 but for 1 at coordinate j
abbrev pub nonnegative_row : ℕ → ℕ → FileRow
nonnegative_row n j = record { entries = slice_set (replicate n (pos 0)) j (pos 1); linear = false }

-- one for each coordinate: for j from 1 to n - 1
abbrev pub nonnegative_rows : ℕ → List FileRow
nonnegative_rows n = map (nonnegative_row n) (range_with_len 1 (n - 1))

-- the rows of a file, and behind them those that `nonnegative` adds to an H file
abbrev pub with_nonnegative : Kind → Bool → ℕ → List FileRow → List FileRow
with_nonnegative H true n rows = rows ++ nonnegative_rows n
with_nonnegative H false n rows = rows
with_nonnegative V nonnegative n rows = rows

abbrev pub all_rows : Polyhedron → List FileRow
all_rows p = with_nonnegative p.kind p.nonnegative p.n p.rows

-- the same as rows of the cone
abbrev pub file_rows : Polyhedron → List Row
file_rows p = map (cone_row p.kind) (all_rows p)

-- the cone of a polyhedron
abbrev pub cone_of : Polyhedron → System
cone_of p = record { kind = p.kind; n = p.n; rows = file_rows p ++ added_row p.kind p.n (file_rows p) }
