-- The first word of a numbered line, by the place where it begins and the place where it ends.
use Rattle.std.proofs.Common.{◌≡◌, ℕ, List, [], ◌∷◌, take, drop, ap, sym, Some, None}
use Rattle.std.specs.Prelude.{position, map}
use Rattle.poly_reader.specs.Lines.{Line, is_blank, is_word_byte, words_on}
use Rattle.poly_reader.proofs.FirstWord.{past_front, first_word, only_word, no_word}
use Rattle.plain_text.proofs.Positions.{position_some}

abbrev on : ℕ → List (List ℕ) → Line
on number parts = map (λ (text : List ℕ). record { text = text; line = number }) parts

pub past_blanks_on : (number : ℕ) (line : List ℕ) (start : ℕ) → position is_word_byte line ≡ Some start
    → words_on number (drop start line) ≡ words_on number line
past_blanks_on number line start p =
    sym (ap (on number) (past_front line start (position_some is_word_byte line start p)))

pub first_on : (number : ℕ) (line : List ℕ) (start n : ℕ) → position is_word_byte line ≡ Some start
    → position is_blank (drop start line) ≡ Some n
    → words_on number line ≡ record { text = take n (drop start line); line = number }
    ∷ words_on number (drop n (drop start line))
first_on number line start n p q = ap (on number) (first_word line start n p q)

pub only_on : (number : ℕ) (line : List ℕ) (start : ℕ) → position is_word_byte line ≡ Some start
    → position is_blank (drop start line) ≡ None
    → words_on number line ≡ record { text = drop start line; line = number } ∷ words_on number []
only_on number line start p q = ap (on number) (only_word line start p q)

pub none_on : (number : ℕ) (line : List ℕ) → position is_word_byte line ≡ None → words_on number line ≡ []
none_on number line p = ap (on number) (no_word line p)
