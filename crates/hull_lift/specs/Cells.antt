-- What a cone keeps of the rows of a file: their entries in one list, and two marks for each row.
use Rattle.std.specs.Prelude.{ℕ, ◌≡◌, ◌-◌, Bool, true, false, List, if◌then◌else◌, length, map}
use Rattle.std.specs.List.{flat_map}
use Rattle.poly_num.specs.Vectors.{Vector}
use Rattle.poly_model.specs.declared.kind.Kind.{Kind}
use Rattle.poly_model.specs.declared.kind.Kind.TheVariants.{H, V}
use Rattle.poly_model.specs.declared.kind.RowKind.{RowKind}
use Rattle.poly_model.specs.declared.kind.RowKind.TheVariants.{Point, Ray}
use Rattle.poly_model.specs.Systems.{FileRow, starts_positive}

-- what a row of a file holds, apart from its mark
abbrev pub entries_of : FileRow → Vector
entries_of row = row.entries

-- the entries of the rows, one row after the other
abbrev pub cells_of : List FileRow → Vector
cells_of rows = flat_map entries_of rows

-- the row has n entries
abbrev pub HasWidth : ℕ → FileRow → Type 0
HasWidth n row = length row.entries ≡ n

abbrev pub is_linear : FileRow → Bool
is_linear row = row.linear

-- which rows are linear
abbrev pub linear_marks : List FileRow → List Bool
linear_marks rows = map is_linear rows

-- a row of a V file is a point where its first entry is positive, and a ray or a line elsewhere
abbrev pub vector_kind : Vector → RowKind
vector_kind v = if starts_positive v then Point else Ray

-- a row of an H file is never a point
abbrev pub row_kind : Kind → Vector → RowKind
row_kind H v = Ray
row_kind V v = vector_kind v

-- which rows are points
abbrev pub row_kinds : Kind → List FileRow → List RowKind
row_kinds kind rows = map (λ row. row_kind kind row.entries) rows

-- how many rows `nonnegative` adds: one for each coordinate of an H file
abbrev pub nonnegative_count : Kind → Bool → ℕ → ℕ
nonnegative_count H true n = n - 1
nonnegative_count H false n = 0
nonnegative_count V nonnegative n = 0

-- of which kind the row behind those of the file is: the row at infinity is no point, the origin is one
abbrev pub added_kind : Kind → RowKind
added_kind H = Ray
added_kind V = Point
