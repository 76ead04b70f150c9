-- The header: how many rows, how wide, and the type.
use Rattle.std.specs.Prelude.{ℕ, not, ◌==◌, ◌||◌, nat_lt, if◌then◌else◌, List, [], ◌∷◌, Option, Some, None, Result, Ok, codes}
use Rattle.poly_model.specs.Limits.{most_columns, most_file_rows}
use Rattle.poly_reader.specs.declared.bad.BadFile.{BadFile}
use Rattle.poly_reader.specs.declared.bad.BadKind.TheVariants.{BadHeader, TooManyRows, BadWidth, UnsupportedType}
use Rattle.poly_reader.specs.declared.header.Header.{Header}
use Rattle.poly_reader.specs.Lines.{Word, is_word}
use Rattle.plain_text.specs.Digits.{count_of}
use Rattle.poly_reader.specs.FirstFault.{◌>>=◌, Check, bad, unless, or_bad}

-- how many rows are announced, if that is said; how many numbers a row has; the words behind the header
pub record Size : Type 0 where
  pub rows : Option ℕ
  pub width : ℕ
  pub words : List Word

-- so many rows, if they are not too many
abbrev pub rows_within : ℕ → ℕ → Result (Option ℕ) BadFile
rows_within line m = if nat_lt most_file_rows m then bad TooManyRows line else Ok (Some m)

-- the first word: `*****`, or how many rows there are
unfoldable pub rows_announced : Word → Result (Option ℕ) BadFile
rows_announced w =
    if is_word w (codes "*****") then Ok None
    else (or_bad BadHeader w.line (count_of w.text) >>= rows_within w.line)

-- so many numbers in a row, if it is a width
abbrev pub width_within : ℕ → ℕ → Result ℕ BadFile
width_within line n = if n == 0 || nat_lt most_columns n then bad BadWidth line else Ok n

-- the second word: how many numbers a row has
unfoldable pub width_of : Word → Result ℕ BadFile
width_of w = or_bad BadHeader w.line (count_of w.text) >>= width_within w.line

-- the third word: the type, which says nothing else about the numbers
unfoldable pub type_fault : Word → Check
type_fault w = unless (not (is_word w (codes "integer") || is_word w (codes "rational"))) UnsupportedType w.line

-- what f makes of the next word and those behind it; a header that ends here is a fault
abbrev pub next_and : {A : Type 0} → ℕ → List Word → (Word → List Word → Result A BadFile) → Result A BadFile
next_and last [] f = bad BadHeader last
next_and last (w ∷ words) f = f w words

-- the header in front of these words
unfoldable pub size_of : ℕ → List Word → Result Size BadFile
size_of last words = next_and last words (λ m words. do
  rows ← rows_announced m
  next_and last words (λ n words. do
    width ← width_of n
    next_and last words (λ t words. do
      done ← type_fault t
      Ok (record { rows = rows; width = width; words = words }))))

-- what the program keeps of it
abbrev pub size : Header → Size
size h = record { rows = h.rows; width = h.width; words = h.words }
