-- What a text is: its polyhedron, or else the first thing that is wrong with it.
use Rattle.std.specs.Prelude.{◌≡◌, ℕ, ◌/◌, Bool, true, false, ◌==◌, ◌&&◌, nat_lt, List, length, Option, Some, None, Result, Ok, Err}
use Rattle.poly_model.specs.declared.kind.Kind.{Kind}
use Rattle.poly_model.specs.declared.kind.Kind.TheVariants.{H, V}
use Rattle.poly_model.specs.Systems.{Polyhedron}
use Rattle.poly_model.specs.Tables.{file_rows_in}
use Rattle.poly_reader.specs.declared.poly.Parts.{Parts}
use Rattle.poly_reader.specs.declared.bad.BadFile.{BadFile}
use Rattle.poly_reader.specs.declared.bad.BadKind.TheVariants.{TooLong, NoRows, MisplacedNonnegative}
use Rattle.poly_reader.specs.Limits.{most_file_bytes}
use Rattle.poly_reader.specs.Lines.{lines_of, last_line, firsts}
use Rattle.poly_reader.specs.FirstFault.{◌>>=◌, Check, unless, each}
use Rattle.poly_reader.specs.Head.{head_of, names_of, nonnegative_line_of, opening_of}
use Rattle.poly_reader.specs.Header.{size_of}
use Rattle.poly_reader.specs.Matrix.{matrix_of, late_fault}
use Rattle.poly_reader.specs.Marks.{checked_marks}
use Rattle.poly_reader.specs.Rows.{rows_from}

-- a V file
abbrev pub is_v : Kind → Bool
is_v H = false
is_v V = true

-- so many bytes are no more than a file may have
abbrev pub length_fault : ℕ → Check
length_fault bytes = unless (nat_lt most_file_bytes bytes) TooLong 0

-- a V file has a row
abbrev pub empty_fault : Kind → ℕ → ℕ → Check
empty_fault kind m line = unless (is_v kind && m == 0) NoRows line

-- a line is given
abbrev pub is_given : Option ℕ → Bool
is_given None = false
is_given (Some line) = true

-- a V file has no line `nonnegative`; where it has one, this is the first
abbrev pub nonnegative_fault : Kind → Option ℕ → Check
nonnegative_fault kind None = Ok tt
nonnegative_fault kind (Some line) = unless (is_v kind) MisplacedNonnegative line

-- the polyhedron of this text, from what the program keeps of it
abbrev pub polyhedron : List ℕ → Parts → Polyhedron
polyhedron text p = record {
  kind = p.kind;
  n = p.width;
  rows = file_rows_in p.width p.cells.items p.linear.items;
  nonnegative = p.nonnegative;
  text = text;
}

-- the polyhedron of a text, or the first fault: the checks are taken in this order
unfoldable pub reading : List ℕ → Result Polyhedron BadFile
reading text = do
  short ← length_fault (length text)
  let last = last_line text
  opening ← opening_of last (lines_of text)
  size ← size_of last opening.words
  matrix ← matrix_of last size.rows size.width 0 size.words
  late ← each late_fault (firsts matrix.end_line matrix.words)
  let m = matrix.count / size.width
  marks ← checked_marks m (names_of (head_of (lines_of text)))
  some ← empty_fault opening.kind m matrix.end_line
  let given = nonnegative_line_of (head_of (lines_of text))
  placed ← nonnegative_fault opening.kind given
  rows ← rows_from last opening.kind size.width marks size.words
  Ok (record { kind = opening.kind; n = size.width; rows = rows; nonnegative = is_given given; text = text })

-- the text describes this polyhedron
abbrev pub IsFileOf : List ℕ → Polyhedron → Type 0
IsFileOf text p = reading text ≡ Ok p

-- this is the first thing that is wrong with the text
abbrev pub IsFirstFault : List ℕ → BadFile → Type 0
IsFirstFault text f = reading text ≡ Err f

-- the polyhedron is the one that its own text describes
abbrev pub IsOfItsText : Polyhedron → Type 0
IsOfItsText p = IsFileOf p.text p
