-- The rows that the lines of a text say.
use Rattle.std.specs.Prelude.{ℕ, ℤ, Bool, false, ◌==◌, List, [], ◌∷◌, map, drop}
use Rattle.std.specs.List.{filter, slice_split}
use Rattle.std.specs.Option.{option_map_or}
use Rattle.plain_text.specs.Cuts.{is_newline, is_space}
use Rattle.plain_text.specs.Digits.{decimal_of, is_negative, without_minus, signed}
use Rattle.poly_num.specs.Vectors.{Vector}

-- the number whose decimal text a word is; 0 of another word
abbrev pub decimal_number : List ℕ → ℤ
decimal_number word = signed (is_negative word) (option_map_or (λ n. n) (decimal_of (without_minus word)) 0)

-- the numbers of the words behind the first
abbrev pub entries_in : List ℕ → Vector
entries_in line = map decimal_number (drop 1 (slice_split is_space line))

-- a line that shows a row: of those of a reply it alone begins with r
abbrev pub is_row_line : List ℕ → Bool
is_row_line [] = false
is_row_line (b ∷ line) = b == 114

-- the rows that a text shows, one to a line
unfoldable pub shown_rows : List ℕ → List Vector
shown_rows text = map entries_in (filter is_row_line (slice_split is_newline text))
