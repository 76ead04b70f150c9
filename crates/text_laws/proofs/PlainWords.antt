-- Lines that are written word by word, each with a blank before it, have these words.
use Rattle.std.proofs.Common.{◌≡◌, ◌+◌, ℕ, Bool, true, false, List, [], ◌∷◌, ◌++◌, map, refl, ap, ◌∙◌, append_assoc, append-nil}
use Rattle.std.specs.Prelude.{not, ◌||◌}
use Rattle.std.specs.List.{slice_split, filter, flat_map, list_all, AllByRecursion}
use Rattle.std.proofs.lemmas.Bool.{and_parts, and_from, not-true, not_from_false, or_parts}
use Rattle.std.proofs.lemmas.List.Elements.{All-from_recursion}
use Rattle.std.proofs.lemmas.List.Folds.{list_all-append}
use Rattle.std.proofs.lemmas.List.Splits.{slice_split_at, slice_split_none}
use Rattle.plain_text.specs.Cuts.{is_newline}
use Rattle.plain_text.specs.Digits.{is_nonempty}
use Rattle.poly_reader.specs.Lines.{Line, is_blank, pieces, lines_from}

-- ---- words

-- no blank and no line feed
abbrev pub is_plain : ℕ → Bool
is_plain b = not (is_blank b || is_newline b)

-- no line feed
abbrev pub is_inside : ℕ → Bool
is_inside b = not (is_newline b)

-- at least one byte, and no blank or line feed
pub record IsPlainWord (text : List ℕ) : Type 0 where
  pub some : is_nonempty text ≡ true
  pub bytes : list_all is_plain text ≡ true

-- the words, each after one blank
abbrev pub spaced : List (List ℕ) → List ℕ
spaced words = flat_map (λ (word : List ℕ). 32 ∷ word) words

no_blanks : (text : List ℕ) → list_all is_plain text ≡ true → AllByRecursion (λ (b : ℕ). is_blank b ≡ false) text
no_blanks [] h = tt
no_blanks (b ∷ text) h =
    let k = and_parts (is_plain b) (list_all is_plain text) h in
    ((or_parts (is_blank b) (is_newline b) (not-true (is_blank b || is_newline b) k.0)).0, no_blanks text k.1)

pub all_weaker : (p q : ℕ → Bool) → ((b : ℕ) → p b ≡ true → q b ≡ true) → (text : List ℕ) → list_all p text ≡ true
    → list_all q text ≡ true
all_weaker p q f [] h = refl
all_weaker p q f (b ∷ text) h =
    let k = and_parts (p b) (list_all p text) h in
    and_from (q b) (list_all q text) (f b k.0) (all_weaker p q f text k.1)

inside_from_plain : (b : ℕ) → is_plain b ≡ true → is_inside b ≡ true
inside_from_plain b h =
    not_from_false (is_newline b)
    (or_parts (is_blank b) (is_newline b) (not-true (is_blank b || is_newline b) h)).1

split_words : (word : List ℕ) (words : List (List ℕ)) → list_all is_plain word ≡ true → AllByRecursion IsPlainWord words
    → slice_split is_blank (word ++ spaced words) ≡ word ∷ words
split_words word [] h k =
    rw (append-nil word)
    (slice_split_none is_blank word (All-from_recursion (λ (b : ℕ). is_blank b ≡ false) word (no_blanks word h)))
split_words word (next ∷ words) h k =
    slice_split_at is_blank word 32 (next ++ spaced words)
    (All-from_recursion (λ (b : ℕ). is_blank b ≡ false) word (no_blanks word h)) refl
    ∙ ap (λ (l : List (List ℕ)). word ∷ l) (split_words next words k.0.bytes k.1)

kept_words : (words : List (List ℕ)) → AllByRecursion IsPlainWord words → filter is_nonempty words ≡ words
kept_words [] h = refl
kept_words (word ∷ words) h = rw (h.0.some, kept_words words h.1) refl

pieces_from_word : (word : List ℕ) (words : List (List ℕ)) → IsPlainWord word → AllByRecursion IsPlainWord words
    → pieces (word ++ spaced words) ≡ word ∷ words
unfolding pieces
pieces_from_word word words h k =
    ap (λ (l : List (List ℕ)). filter is_nonempty l) (split_words word words h.bytes k)
    ∙ kept_words (word ∷ words) (h, k)

pieces_spaced : (words : List (List ℕ)) → AllByRecursion IsPlainWord words → pieces (spaced words) ≡ words
unfolding pieces
pieces_spaced [] h = refl
pieces_spaced (word ∷ words) h =
    ap (λ (l : List (List ℕ)). filter is_nonempty l) (split_words word words h.0.bytes h.1)
    ∙ kept_words (word ∷ words) h

inside_spaced : (words : List (List ℕ)) → AllByRecursion IsPlainWord words → list_all is_inside (spaced words) ≡ true
inside_spaced [] h = refl
inside_spaced (word ∷ words) h =
    rw (list_all-append is_inside word (spaced words), all_weaker is_plain is_inside inside_from_plain word h.0.bytes)
    (inside_spaced words h.1)

-- ---- lines

-- a text without a line feed, of these words
pub record HasWords (words : List (List ℕ)) (line : List ℕ) : Type 0 where
  pub inside : list_all is_inside line ≡ true
  pub words_are : pieces line ≡ words

pub line_from_word : (word : List ℕ) (words : List (List ℕ)) → IsPlainWord word → AllByRecursion IsPlainWord words
    → HasWords (word ∷ words) (word ++ spaced words)
line_from_word word words h k = record {
  inside =
      rw (list_all-append is_inside word (spaced words), all_weaker is_plain is_inside inside_from_plain word h.bytes)
      (inside_spaced words k);
  words_are = pieces_from_word word words h k;
}

pub line_spaced : (words : List (List ℕ)) → AllByRecursion IsPlainWord words → HasWords words (spaced words)
line_spaced words h = record { inside = inside_spaced words h; words_are = pieces_spaced words h }

-- ---- texts

-- the lines, each with its line feed
abbrev pub with_line_feeds : List (List ℕ) → List ℕ
with_line_feeds lines = flat_map (λ (line : List ℕ). line ++ 10 ∷ []) lines

-- each line has the words at its place
abbrev pub HaveWords : List (List (List ℕ)) → List (List ℕ) → Type 0
HaveWords [] [] = Unit {0}
HaveWords (words ∷ more) (line ∷ lines) = HasWords words line × HaveWords more lines
HaveWords [] (line ∷ lines) = ⊥
HaveWords (words ∷ more) [] = ⊥

-- the words of a line, with its number
abbrev pub numbered : ℕ → List (List ℕ) → Line
numbered number words = map (λ (text : List ℕ). record { text = text; line = number }) words

-- lines of these words, the first with this number, and an empty line behind them
abbrev pub numbered_lines : ℕ → List (List (List ℕ)) → List Line
numbered_lines number [] = [] ∷ []
numbered_lines number (words ∷ more) = numbered number words ∷ numbered_lines (number + 1) more

no_newlines : (line : List ℕ) → list_all is_inside line ≡ true → AllByRecursion (λ (b : ℕ). is_newline b ≡ false) line
no_newlines [] h = tt
no_newlines (b ∷ line) h =
    let k = and_parts (is_inside b) (list_all is_inside line) h in
    (not-true (is_newline b) k.0, no_newlines line k.1)

split_first : (line rest : List ℕ) → list_all is_inside line ≡ true
    → slice_split is_newline ((line ++ 10 ∷ []) ++ rest) ≡ line ∷ slice_split is_newline rest
split_first line rest h =
    ap (λ (l : List ℕ). slice_split is_newline l) (append_assoc line (10 ∷ []) rest)
    ∙ slice_split_at is_newline line 10 rest
    (All-from_recursion (λ (b : ℕ). is_newline b ≡ false) line (no_newlines line h)) refl

pub lines_are : (number : ℕ) (words : List (List (List ℕ))) (lines : List (List ℕ)) → HaveWords words lines
    → lines_from number (slice_split is_newline (with_line_feeds lines)) ≡ numbered_lines number words
unfolding lines_from pieces
lines_are number [] [] h = refl
lines_are number [] (line ∷ lines) h = absurd h
lines_are number (words ∷ more) [] h = absurd h
lines_are number (words ∷ more) (line ∷ lines) h =
    rw (split_first line (with_line_feeds lines) h.0.inside, lines_are (number + 1) more lines h.1)
    (ap (λ (l : List (List ℕ)). numbered number l ∷ numbered_lines (number + 1) more) h.0.words_are)
