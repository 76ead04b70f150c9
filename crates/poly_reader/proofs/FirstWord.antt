-- The first word of a line, by the place where it begins and the place where it ends.
use Rattle.std.proofs.Common.{◌≡◌, ◌<◌, ◌≤◌, ◌+◌, ℕ, zero, suc, true, false, not, List, [], ◌∷◌, length, take, drop, get_or, refl, sym, ap, subst, ◌∙◌, arith, Some, None, drop-cons, add-one}
use Rattle.std.specs.Prelude.{position}
use Rattle.std.specs.List.{slice_split, filter}
use Rattle.std.proofs.lemmas.List.{drop_all}
use Rattle.std.proofs.lemmas.List.Splits.{slice_split_first, slice_split_none, slice_split-cons_yes}
use Rattle.plain_text.specs.Digits.{is_nonempty}
use Rattle.poly_reader.specs.Lines.{is_blank, is_word_byte, pieces}
use Rattle.plain_text.proofs.Positions.{IsFirst, position_some, position_none, passes, fails_before, none_passes}

past_blank : (b : ℕ) (bytes : List ℕ) → is_blank b ≡ true → pieces (b ∷ bytes) ≡ pieces bytes
unfolding pieces
past_blank b bytes e = rw (slice_split-cons_yes is_blank b bytes e) refl

past_blanks : (n : ℕ) (xs : List ℕ) → n ≤ length xs
    → ((k : ℕ) → k < n → is_blank (get_or xs k 0) ≡ true) → pieces xs ≡ pieces (drop n xs)
past_blanks zero xs le h = refl
past_blanks (suc n) [] le h = absurd (omega arith)
past_blanks (suc n) (x ∷ xs) le h =
    past_blank x xs (h 0 (omega arith)) ∙ past_blanks n xs (omega arith) (λ k lt. h (suc k) (omega arith))

blank_from_not_word_byte : (b : ℕ) → is_word_byte b ≡ false → is_blank b ≡ true
blank_from_not_word_byte b e = elim (is_blank b) as (λ v. (not v ≡ false) → v ≡ true)
    [ true ↦ λ _. refl | false ↦ λ h. absurd cc ] e

not_blank_from_word_byte : (b : ℕ) → is_word_byte b ≡ true → is_blank b ≡ false
not_blank_from_word_byte b e = elim (is_blank b) as (λ v. (not v ≡ true) → v ≡ false)
    [ true ↦ λ h. absurd cc | false ↦ λ _. refl ] e

-- blanks before the first word
pub past_front : (line : List ℕ) (n : ℕ) → IsFirst is_word_byte line n → pieces line ≡ pieces (drop n line)
past_front line n f =
    past_blanks n line (omega (arith, f.within)) (λ k lt. blank_from_not_word_byte (get_or line k 0)
    (fails_before is_word_byte line n k 0 f lt))

-- nothing but blanks
pub no_word : (line : List ℕ) → position is_word_byte line ≡ None → pieces line ≡ []
unfolding pieces
no_word line e =
    past_blanks (length line) line (omega arith) (λ k lt. blank_from_not_word_byte (get_or line k 0)
    (position_none is_word_byte line k 0 e lt))
    ∙ rw (drop_all (length line) line (omega arith)) refl

-- the first byte that is no blank
begins : (line : List ℕ) (n : ℕ) → IsFirst is_word_byte line n
    → (b : ℕ) × (rest : List ℕ) × (drop n line ≡ b ∷ rest) × (is_blank b ≡ false)
begins line n f = (
  get_or line n 0,
  drop (suc n) line,
  drop-cons line n 0 f.within,
  not_blank_from_word_byte
      (get_or line n 0) (passes is_word_byte line n 0 f),
)

nonempty_front : (b : ℕ) (rest : List ℕ) (n : ℕ) → is_blank b ≡ false
    → is_blank (get_or (b ∷ rest) n 0) ≡ true → is_nonempty (take n (b ∷ rest)) ≡ true
nonempty_front b rest zero e h = let bad : ⊥ = cc in absurd bad
nonempty_front b rest (suc n) e h = refl

kept : (word : List ℕ) (words : List (List ℕ)) → is_nonempty word ≡ true
    → filter is_nonempty (word ∷ words) ≡ word ∷ filter is_nonempty words
kept word words e = rw e refl

-- a word with a blank behind it
word_then_blank : (b : ℕ) (rest : List ℕ) (n : ℕ) → is_blank b ≡ false → IsFirst is_blank (b ∷ rest) n
    → pieces (b ∷ rest) ≡ take n (b ∷ rest) ∷ pieces (drop n (b ∷ rest))
unfolding pieces
word_then_blank b rest n e f =
    let stops = passes is_blank (b ∷ rest) n 0 f in
    let cut : slice_split is_blank (b ∷ rest) ≡ take n (b ∷ rest) ∷ slice_split is_blank (drop (n + 1) (b ∷ rest)) =
    rw f.is (slice_split_first is_blank (b ∷ rest) 0 (rw (← f.is) f.within)) in
    let front = nonempty_front b rest n e stops in
    let back : pieces (drop n (b ∷ rest)) ≡ pieces (drop (suc n) (b ∷ rest)) =
    rw (drop-cons (b ∷ rest) n 0 f.within) (past_blank (get_or (b ∷ rest) n 0) (drop (suc n) (b ∷ rest)) stops) in
    ap (λ l. filter is_nonempty l) cut
    ∙ kept (take n (b ∷ rest)) (slice_split is_blank (drop (n + 1) (b ∷ rest))) front
    ∙ rw add-one (ap (λ l. take n (b ∷ rest) ∷ l) (sym back))

-- a word at the end of the line
last_word : (b : ℕ) (rest : List ℕ) → position is_blank (b ∷ rest) ≡ None
    → pieces (b ∷ rest) ≡ (b ∷ rest) ∷ pieces []
unfolding pieces
last_word b rest e =
    ap (λ l. filter is_nonempty l) (slice_split_none is_blank (b ∷ rest) (none_passes is_blank (b ∷ rest) e))

-- a line begins its first word at `start`, and it ends n bytes later
pub first_word : (line : List ℕ) (start n : ℕ) → position is_word_byte line ≡ Some start
    → position is_blank (drop start line) ≡ Some n
    → pieces line ≡ take n (drop start line) ∷ pieces (drop n (drop start line))
first_word line start n p q =
    let f = position_some is_word_byte line start p in
    let (b, rest, e, fill) = begins line start f in
    let g = subst (λ (l : List ℕ). IsFirst is_blank l n) e (position_some is_blank (drop start line) n q) in
    rw (past_front line start f, e) (word_then_blank b rest n fill g)

-- a line begins its only word at `start`, and ends with it
pub only_word : (line : List ℕ) (start : ℕ) → position is_word_byte line ≡ Some start
    → position is_blank (drop start line) ≡ None → pieces line ≡ drop start line ∷ pieces []
only_word line start p q =
    let f = position_some is_word_byte line start p in
    let (b, rest, e, fill) = begins line start f in
    let g = subst (λ (l : List ℕ). position is_blank l ≡ None) e q in
    rw (past_front line start f, e) (last_word b rest g)
