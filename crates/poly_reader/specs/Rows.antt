-- The rows: what is wrong with one, and its entries.
use Rattle.std.specs.Prelude.{ℕ, zero, suc, Bool, not, ◌&&◌, if◌then◌else◌, List, [], ◌∷◌, drop, Result, Ok, pos}
use Rattle.std.specs.Ordering.{int_eq}
use Rattle.poly_num.specs.Fractions.{Fraction}
use Rattle.poly_model.specs.declared.kind.Kind.{Kind}
use Rattle.poly_model.specs.declared.kind.Kind.TheVariants.{H, V}
use Rattle.poly_model.specs.Systems.{FileRow}
use Rattle.poly_reader.specs.declared.bad.BadFile.{BadFile}
use Rattle.poly_reader.specs.declared.bad.BadKind.TheVariants.{NoEnd, BadFirst, LinearPoint, WideRow}
use Rattle.poly_reader.specs.Lines.{Word}
use Rattle.poly_reader.specs.Matrix.{number_of, number_on}
use Rattle.poly_reader.specs.Scaling.{scaled_entries, is_wide_row}
use Rattle.poly_reader.specs.FirstFault.{◌>>=◌, Check, bad, unless}

-- a fraction in lowest terms is 0
abbrev pub is_zero_fraction : Fraction → Bool
is_zero_fraction f = int_eq f.num (pos 0)

-- a fraction in lowest terms is 1
abbrev pub is_one_fraction : Fraction → Bool
is_one_fraction f = int_eq f.num (pos 1) && int_eq f.den (pos 1)

-- what is wrong with the first number of a row of a V file, on this line
unfoldable pub first_fault : Bool → ℕ → Fraction → Check
first_fault linear line f =
    if is_one_fraction f then unless linear LinearPoint line else unless (not (is_zero_fraction f)) BadFirst line

-- what is wrong with the first number of a row
abbrev pub kind_fault : Kind → Bool → ℕ → Fraction → Check
kind_fault H linear line f = Ok tt
kind_fault V linear line f = first_fault linear line f

-- what is wrong with a row that begins on this line
unfoldable pub row_fault : Kind → Bool → ℕ → List Fraction → Check
row_fault kind linear line [] = Ok tt
row_fault kind linear line (f ∷ row) = do
  done ← kind_fault kind linear line f
  unless (is_wide_row (f ∷ row)) WideRow line

-- the row of these numbers, which begin on this line
unfoldable pub checked_row : Kind → Bool → ℕ → List Fraction → Result FileRow BadFile
checked_row kind linear line row = do
  done ← row_fault kind linear line row
  Ok (record { entries = scaled_entries row; linear = linear })

-- the first n of these words as numbers; the matrix is known to have them
unfoldable pub numbers_in : ℕ → ℕ → List Word → Result (List Fraction) BadFile
numbers_in last zero words = Ok []
numbers_in last (suc n) [] = bad NoEnd last
numbers_in last (suc n) (w ∷ words) = do
  x ← number_on w.line (number_of w.text)
  others ← numbers_in last n words
  Ok (x ∷ others)

-- the line of the first of these words
abbrev pub line_of_first : ℕ → List Word → ℕ
line_of_first last [] = last
line_of_first last (w ∷ words) = w.line

-- a row of n of these words for each mark, which says whether it is linear
unfoldable pub rows_from : ℕ → Kind → ℕ → List Bool → List Word → Result (List FileRow) BadFile
rows_from last kind n [] words = Ok []
rows_from last kind n (mark ∷ marks) words = do
  numbers ← numbers_in last n words
  row ← checked_row kind mark (line_of_first last words) numbers
  others ← rows_from last kind n marks (drop n words)
  Ok (row ∷ others)
