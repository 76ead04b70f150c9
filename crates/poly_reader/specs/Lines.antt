-- The lines of a text and their words.
use Rattle.std.specs.Prelude.{ℕ, ◌+◌, Bool, true, false, not, ◌==◌, ◌||◌, ◌&&◌, if◌then◌else◌, List, [], ◌∷◌, Option, Some, None, length, map}
use Rattle.std.specs.List.{slice_split, filter, flat_map}
use Rattle.std.specs.Borrow.{Bor}
use Rattle.plain_text.specs.Digits.{is_nonempty}
use Rattle.plain_text.specs.Cuts.{is_newline}
use Rattle.poly_reader.specs.declared.lines.Token.{Token}

-- a space, a tab or a CR
abbrev pub is_blank : ℕ → Bool
is_blank b = b == 32 || b == 9 || b == 13

-- no blank
abbrev pub is_word_byte : ℕ → Bool
is_word_byte b = not (is_blank b)

-- the same bytes
abbrev pub is_same : List ℕ → List ℕ → Bool
is_same [] [] = true
is_same (a ∷ xs) (b ∷ ys) = a == b && is_same xs ys
is_same _ _ = false

-- a word: its bytes, and the number of its line
pub record Word : Type 0 where
  pub text : List ℕ
  pub line : ℕ

-- a line: its words
abbrev pub Line : Type 0
Line = List Word

-- the word is this text
abbrev pub is_word : Word → List ℕ → Bool
is_word w text = is_same w.text text

-- the line begins with this word
abbrev pub begins_with : List ℕ → Line → Bool
begins_with text [] = false
begins_with text (w ∷ words) = is_word w text

-- what stands between the blanks of a line
unfoldable pub pieces : List ℕ → List (List ℕ)
pieces line = filter is_nonempty (slice_split is_blank line)

-- the words of the line that has this number
abbrev pub words_on : ℕ → List ℕ → Line
words_on number line = map (λ (text : List ℕ). record { text = text; line = number }) (pieces line)

-- lines, each as its words, the first of which has this number
unfoldable pub lines_from : ℕ → List (List ℕ) → List Line
lines_from number [] = []
lines_from number (line ∷ lines) = words_on number line ∷ lines_from (number + 1) lines

-- the lines of a text: what stands between line feeds, numbered from 1
abbrev pub lines_of : List ℕ → List Line
lines_of text = lines_from 1 (slice_split is_newline text)

-- the number of the line on which a text ends
abbrev pub last_line : List ℕ → ℕ
last_line text = length (slice_split is_newline text)

-- the words of lines, one line after the other
abbrev pub joined : List Line → List Word
joined lines = flat_map (λ (line : Line). line) lines

-- the words that begin a line, of those behind a word on this line
unfoldable pub firsts : ℕ → List Word → List Word
firsts line [] = []
firsts line (w ∷ words) = if w.line == line then firsts line words else w ∷ firsts w.line words

-- a word of the program, without where it lies in memory
abbrev pub word : Token → Word
word t = record { text = t.text.now; line = t.line }

-- the lines of what is left of a text; none where nothing is left, not even an empty line
abbrev pub lines_left : ℕ → Option (Bor (List ℕ)) → List Line
lines_left number None = []
lines_left number (Some text) = lines_from number (slice_split is_newline text.now)

-- how many bytes are left
abbrev pub bytes_left : Option (Bor (List ℕ)) → ℕ
bytes_left None = 0
bytes_left (Some text) = length text.now
