-- The numbers up to `end`: how many there are, and what is wrong first.
use Rattle.std.specs.Prelude.{◌<◌, ◌^◌, ℕ, ◌+◌, ◌*◌, ◌%◌, Bool, ◌==◌, ◌||◌, if◌then◌else◌, List, [], ◌∷◌, Option, Some, None, Result, Ok, Err, pos, codes}
use Rattle.poly_num.specs.Fractions.{Fraction, lowest}
use Rattle.poly_model.specs.Limits.{most_file_rows}
use Rattle.poly_reader.specs.declared.bad.BadKind.{BadKind}
use Rattle.poly_reader.specs.declared.bad.BadFile.{BadFile}
use Rattle.poly_reader.specs.declared.bad.BadKind.TheVariants.{TooManyRows, ShortData, LongData, BadNumber, ZeroDenominator, WideNumber, NoEnd, MisplacedLinearity, MisplacedNonnegative}
use Rattle.poly_reader.specs.declared.matrix.Extent.{Extent}
use Rattle.poly_reader.specs.Lines.{Word, is_word}
use Rattle.plain_text.specs.Digits.{is_negative, signed}
use Rattle.poly_reader.specs.Grammar.{unsigned, numerator_of, denominator_of, is_wide}
use Rattle.poly_reader.specs.FirstFault.{◌>>=◌, Check, bad, unless}

-- the sizes above and below, or what is wrong with the word that has them
abbrev pub sizes_of : Option ℕ → Option ℕ → Result (ℕ × ℕ) BadKind
sizes_of (Some p) (Some q) =
    if q == 0 then Err ZeroDenominator else (if is_wide p || is_wide q then Err WideNumber else Ok (p, q))
sizes_of _ _ = Err BadNumber

-- a number has them
abbrev pub AreSizes : ℕ × ℕ → Type 0
AreSizes s = (s.0 < 2 ^ 127) × (0 < s.1) × (s.1 < 2 ^ 127)

-- the fraction of this sign and these sizes in lowest terms
abbrev pub fraction_of : Bool → Result (ℕ × ℕ) BadKind → Result Fraction BadKind
fraction_of negative (Ok s) = Ok (lowest (signed negative s.0) (pos s.1))
fraction_of negative (Err kind) = Err kind

-- the number that a word is, or what is wrong with it
unfoldable pub number_of : List ℕ → Result Fraction BadKind
number_of text =
    fraction_of (is_negative text) (sizes_of (numerator_of (unsigned text)) (denominator_of (unsigned text)))

-- that number, or the fault on this line
abbrev pub number_on : ℕ → Result Fraction BadKind → Result Fraction BadFile
number_on line (Ok x) = Ok x
number_on line (Err kind) = bad kind line

-- the most numbers that there may be
abbrev pub most : Option ℕ → ℕ → ℕ
most None n = most_file_rows * n
most (Some m) n = m * n

-- what one more number is
abbrev pub excess : Option ℕ → BadKind
excess None = TooManyRows
excess (Some m) = LongData

-- so many numbers are the rows that were announced, or whole rows
abbrev pub is_enough : Option ℕ → ℕ → ℕ → Bool
is_enough None n count = count % n == 0
is_enough (Some m) n count = count == m * n

-- how many numbers stand before `end`, its line, and the words behind it
pub record Matrix : Type 0 where
  pub count : ℕ
  pub end_line : ℕ
  pub words : List Word

-- what the word `end` on this line makes of so many numbers, with these words behind it
abbrev pub ended : Option ℕ → ℕ → ℕ → ℕ → List Word → Result Matrix BadFile
ended rows n count line words =
    if is_enough rows n count then Ok (record { count = count; end_line = line; words = words })
    else bad ShortData line

-- the matrix of which so many numbers stand before these words
unfoldable pub matrix_of : ℕ → Option ℕ → ℕ → ℕ → List Word → Result Matrix BadFile
matrix_of last rows n count [] = bad NoEnd last
matrix_of last rows n count (w ∷ words) =
    if is_word w (codes "end") then ended rows n count w.line words
    else (if count == most rows n then bad (excess rows) w.line
    else (do
      x ← number_on w.line (number_of w.text)
      matrix_of last rows n (count + 1) words))

-- what the program keeps of it
abbrev pub matrix : Extent → Matrix
matrix e = record { count = e.count; end_line = e.end_line; words = e.words }

-- what is wrong with a word that begins a line behind `end`
unfoldable pub late_fault : Word → Check
late_fault w =
    if is_word w (codes "linearity") then bad MisplacedLinearity w.line
    else unless (is_word w (codes "nonnegative")) MisplacedNonnegative w.line
