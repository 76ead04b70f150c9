-- How texts were read while no row had more than 256 numbers and `nonnegative` was refused: a text that had a polyhedron
-- then has it still. For what a text was refused is not said here, only which texts were.
use Rattle.std.specs.Prelude.{◌≡◌, ℕ, ◌/◌, false, not, ◌==◌, ◌||◌, ◌&&◌, nat_lt, if◌then◌else◌, List, [], ◌∷◌, length, Result, Ok, codes}
use Rattle.poly_model.specs.Systems.{Polyhedron}
use Rattle.poly_reader.specs.declared.bad.BadFile.{BadFile}
use Rattle.poly_reader.specs.declared.bad.BadKind.TheVariants.{BadWidth, BadLinearity, MisplacedNonnegative, NoBegin}
use Rattle.poly_reader.specs.Lines.{Word, Line, is_word, lines_of, last_line, firsts}
use Rattle.plain_text.specs.Digits.{count_of}
use Rattle.poly_reader.specs.FirstFault.{◌>>=◌, Check, bad, unless, or_bad, each}
use Rattle.poly_reader.specs.Head.{Opening, head_of, body_of, kind_of, names_of, names_rows}
use Rattle.poly_reader.specs.Header.{Size, next_and, rows_announced, type_fault}
use Rattle.poly_reader.specs.Matrix.{matrix_of, late_fault}
use Rattle.poly_reader.specs.Marks.{checked_marks}
use Rattle.poly_reader.specs.Rows.{rows_from}
use Rattle.poly_reader.specs.Reading.{length_fault, empty_fault, IsFileOf}
use Rattle.poly_reader.specs.declared.bad.BadKind.TheVariants.{BadHeader}

-- a line before `begin` that was refused
unfoldable pub line_fault_before : Line → Check
line_fault_before [] = Ok tt
line_fault_before (w ∷ words) =
    if is_word w (codes "nonnegative") then bad MisplacedNonnegative w.line
    else unless (is_word w (codes "linearity") && not (names_rows words)) BadLinearity w.line

unfoldable pub opening_before : ℕ → List Line → Result Opening BadFile
opening_before last lines = do
  fine ← each line_fault_before (head_of lines)
  words ← or_bad NoBegin last (body_of lines)
  Ok (record { kind = kind_of (head_of lines); words = words })

-- a width that was refused
abbrev pub width_within_before : ℕ → ℕ → Result ℕ BadFile
width_within_before line n = if n == 0 || nat_lt 256 n then bad BadWidth line else Ok n

unfoldable pub width_before : Word → Result ℕ BadFile
width_before w = or_bad BadHeader w.line (count_of w.text) >>= width_within_before w.line

unfoldable pub size_before : ℕ → List Word → Result Size BadFile
size_before last words = next_and last words (λ m words. do
  rows ← rows_announced m
  next_and last words (λ n words. do
    width ← width_before n
    next_and last words (λ t words. do
      done ← type_fault t
      Ok (record { rows = rows; width = width; words = words }))))

-- the polyhedron that a text had
unfoldable pub reading_before : List ℕ → Result Polyhedron BadFile
reading_before text = do
  short ← length_fault (length text)
  let last = last_line text
  opening ← opening_before last (lines_of text)
  size ← size_before last opening.words
  matrix ← matrix_of last size.rows size.width 0 size.words
  late ← each late_fault (firsts matrix.end_line matrix.words)
  let m = matrix.count / size.width
  marks ← checked_marks m (names_of (head_of (lines_of text)))
  some ← empty_fault opening.kind m matrix.end_line
  rows ← rows_from last opening.kind size.width marks size.words
  Ok (record { kind = opening.kind; n = size.width; rows = rows; nonnegative = false; text = text })

-- a text that had a polyhedron keeps it
abbrev pub KeepsItsPolyhedron : List ℕ → Type 0
KeepsItsPolyhedron text = (p : Polyhedron) → reading_before text ≡ Ok p → IsFileOf text p
