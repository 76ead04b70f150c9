-- The file that a listing is: its polyhedron, and what its rows have to be for it.
use Rattle.std.specs.Prelude.{◌≡◌, ◌⊎◌, ℕ, ◌+◌, ◌<◌, ◌≤◌, pos, ◌≤ℤ◌, true, false, List, ◌++◌, length, map}
use Rattle.std.specs.List.{AllByRecursion}
use Rattle.poly_num.specs.Numbers.{IsNum}
use Rattle.poly_num.specs.Vectors.{Vector, IsZero, IsPrimitive}
use Rattle.poly_model.specs.declared.kind.Kind.{Kind}
use Rattle.poly_model.specs.declared.kind.Kind.TheVariants.{H, V}
use Rattle.poly_model.specs.Cones.{at}
use Rattle.poly_model.specs.Limits.{most_columns, most_file_rows}
use Rattle.poly_model.specs.Listing.{listing_text}
use Rattle.poly_model.specs.Systems.{FileRow, Polyhedron}
use Rattle.poly_reader.specs.Limits.{most_file_bytes}

-- ---- the polyhedron of a listing

-- the kind of the file that the listing of an input file of this kind is
abbrev pub other_kind : Kind → Kind
other_kind H = V
other_kind V = H

abbrev pub linear_row : Vector → FileRow
linear_row v = record { entries = v; linear = true }

abbrev pub nonlinear_row : Vector → FileRow
nonlinear_row v = record { entries = v; linear = false }

-- the lines as linear rows, and then the shown vectors as rows that are not linear
abbrev pub listed_rows : List Vector → List Vector → List FileRow
listed_rows lines shown = map linear_row lines ++ map nonlinear_row shown

-- what the listing of an input file of this kind is read as: a file of the other kind, with the vectors as they stand
abbrev pub listed_polyhedron : Kind → ℕ → List Vector → List Vector → Polyhedron
listed_polyhedron kind n lines shown = record {
  kind = other_kind kind;
  n = n;
  rows = listed_rows lines shown;
  nonnegative = false;
  text = listing_text kind n lines shown;
}

-- ---- what a file may hold

-- so many rows are enough: the listing of an H file is a V file, and that has a row
abbrev pub HasEnough : Kind → ℕ → Type 0
HasEnough H m = 0 < m
HasEnough V m = Unit {0}

-- the listing of an input file of this kind has no more columns, rows and bytes than a file may have, and no number
-- of more than 127 bits and a sign
pub record IsWithinLimits (kind : Kind) (n : ℕ) (lines shown : List Vector) : Type 0 where
  pub some_columns : 0 < n
  pub columns : n ≤ most_columns
  pub rows : length lines + length shown ≤ most_file_rows
  pub bytes : length (listing_text kind n lines shown) ≤ most_file_bytes
  pub line_numbers : AllByRecursion (AllByRecursion IsNum) lines
  pub shown_numbers : AllByRecursion (AllByRecursion IsNum) shown

-- ---- what a row has to be

-- n numbers without common divisor, or n zeros
pub record IsSmallest (n : ℕ) (v : Vector) : Type 0 where
  pub width : length v ≡ n
  pub smallest : IsZero v ⊎ IsPrimitive v

-- in the V file that lists an H file a line begins with 0
abbrev pub BeginsAsLine : Kind → Vector → Type 0
BeginsAsLine H v = at 0 v ≡ pos 0
BeginsAsLine V v = Unit {0}

-- in the V file that lists an H file a row does not begin with a negative number
abbrev pub BeginsAsRow : Kind → Vector → Type 0
BeginsAsRow H v = pos 0 ≤ℤ at 0 v
BeginsAsRow V v = Unit {0}

-- the lines and the shown vectors can be the rows of a file
pub record AreRows (kind : Kind) (n : ℕ) (lines shown : List Vector) : Type 0 where
  pub enough : HasEnough kind (length lines + length shown)
  pub line_sizes : AllByRecursion (IsSmallest n) lines
  pub line_begins : AllByRecursion (BeginsAsLine kind) lines
  pub shown_sizes : AllByRecursion (IsSmallest n) shown
  pub shown_begins : AllByRecursion (BeginsAsRow kind) shown
