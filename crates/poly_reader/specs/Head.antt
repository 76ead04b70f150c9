-- The lines before `begin`: what is wrong with one, the kind, the rows that are named.
use Rattle.std.specs.Prelude.{◌≡◌, ℕ, zero, suc, Bool, true, false, not, ◌&&◌, if◌then◌else◌, List, [], ◌∷◌, ◌++◌, map, take, drop, Option, Some, None, Result, Ok, Err, codes}
use Rattle.std.specs.List.{fold, flat_map}
use Rattle.poly_model.specs.declared.kind.Kind.{Kind}
use Rattle.poly_model.specs.declared.kind.Kind.TheVariants.{H, V}
use Rattle.poly_reader.specs.declared.bad.BadFile.{BadFile}
use Rattle.poly_reader.specs.declared.bad.BadKind.TheVariants.{BadLinearity, NoBegin}
use Rattle.poly_reader.specs.declared.head.Head.{Head}
use Rattle.poly_reader.specs.declared.head.HeadLine.{HeadLine}
use Rattle.poly_reader.specs.declared.head.HeadLine.TheVariants as lines
use Rattle.poly_reader.specs.Lines.{Word, Line, begins_with, is_word, is_same, joined}
use Rattle.plain_text.specs.Digits.{is_count, value_of}
use Rattle.poly_reader.specs.FirstFault.{◌>>=◌, Check, unless, or_bad, each}

-- the line begins with the word `begin`
abbrev pub begins : Line → Bool
begins line = begins_with (codes "begin") line

-- the lines before the first that begins with `begin`
unfoldable pub head_of : List Line → List Line
head_of [] = []
head_of (line ∷ lines) = if begins line then [] else line ∷ head_of lines

-- the words behind that `begin`, on its line and on later ones
unfoldable pub body_of : List Line → Option (List Word)
body_of [] = None
body_of (line ∷ lines) = if begins line then Some (drop 1 line ++ joined lines) else body_of lines

-- k words are there, and the first k are digits
unfoldable pub are_counts : ℕ → List Word → Bool
are_counts zero words = true
are_counts (suc k) [] = false
are_counts (suc k) (w ∷ words) = is_count w.text && are_counts k words

-- digits, and then at least as many words of digits as they say
abbrev pub names_rows : List Word → Bool
names_rows [] = false
names_rows (k ∷ words) = is_count k.text && are_counts (value_of k.text) words

-- what is wrong with a line before `begin`
unfoldable pub line_fault : Line → Check
line_fault [] = Ok tt
line_fault (w ∷ words) = unless (is_word w (codes "linearity") && not (names_rows words)) BadLinearity w.line

-- the kind that a word says, or the one before
abbrev pub kind_said : Kind → List ℕ → Kind
kind_said kind word =
    if is_same word (codes "H-representation") then H
    else (if is_same word (codes "V-representation") then V else kind)

-- the kind that a line says by its first word, or the one before
abbrev pub kind_after : Kind → Line → Kind
kind_after kind [] = kind
kind_after kind (w ∷ words) = kind_said kind w.text

-- the kind that the last of these lines says; H where none says one
abbrev pub kind_of : List Line → Kind
kind_of lines = fold kind_after H lines

-- a row that is named, counted from 1, and the line that names it
pub record Name : Type 0 where
  pub row : ℕ
  pub line : ℕ

-- what a word on this line names
abbrev pub name_at : ℕ → Word → Name
name_at line w = record { row = value_of w.text; line = line }

-- the rows that are named behind the word `linearity` on this line
abbrev pub names_behind : ℕ → List Word → List Name
names_behind line [] = []
names_behind line (k ∷ words) = map (name_at line) (take (value_of k.text) words)

-- the rows that a line names
unfoldable pub names_on : Line → List Name
names_on [] = []
names_on (w ∷ words) = if is_word w (codes "linearity") then names_behind w.line words else []

-- the rows that these lines name, all together
abbrev pub names_of : List Line → List Name
names_of lines = flat_map names_on lines

-- the number of the line, where it begins with `nonnegative`
unfoldable pub nonnegative_line : Line → Option ℕ
nonnegative_line [] = None
nonnegative_line (w ∷ words) = if is_word w (codes "nonnegative") then Some w.line else None

-- the first of two lines, where there is one
abbrev pub first_of : Option ℕ → Option ℕ → Option ℕ
first_of (Some line) other = Some line
first_of None other = other

-- the number of the first of these lines that begins with `nonnegative`
unfoldable pub nonnegative_line_of : List Line → Option ℕ
nonnegative_line_of [] = None
nonnegative_line_of (line ∷ lines) = first_of (nonnegative_line line) (nonnegative_line_of lines)

-- what is read before the header: the kind, and the words behind `begin`
pub record Opening : Type 0 where
  pub kind : Kind
  pub words : List Word

-- what stands before the header, or what is wrong first; the text ends on line `last`
unfoldable pub opening_of : ℕ → List Line → Result Opening BadFile
opening_of last lines = do
  fine ← each line_fault (head_of lines)
  words ← or_bad NoBegin last (body_of lines)
  Ok (record { kind = kind_of (head_of lines); words = words })

-- a line before the header, as the program reads it behind lines that said this kind
abbrev pub ReadsLine : Kind → Line → Result HeadLine BadFile → Type 0
ReadsLine kind line (Err f) = (begins line ≡ false) × (line_fault line ≡ Err f)
ReadsLine kind line (Ok (lines.Begin rest)) = (begins line ≡ true) × (rest ≡ drop 1 line)
ReadsLine kind line (Ok (lines.Other next)) =
    (begins line ≡ false) × (line_fault line ≡ Ok tt) × (next ≡ kind_after kind line)

-- what the program keeps of it
abbrev pub opening : Head → Opening
opening h = record { kind = h.kind; words = h.words }
