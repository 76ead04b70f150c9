-- A line has at most as many words as bytes.
use Rattle.std.proofs.Common.{◌≡◌, ◌<◌, ◌≤◌, ◌+◌, ℕ, true, false, Bool, refl, subst, List, [], ◌∷◌, length, arith}
use Rattle.std.specs.List.{slice_split, filter, onto_first}
use Rattle.std.proofs.lemmas.List.{length-map}
use Rattle.plain_text.specs.Digits.{is_nonempty}
use Rattle.poly_reader.specs.Lines.{Line, is_blank, pieces, words_on}

abbrev filled : List (List ℕ) → ℕ
filled parts = length (filter is_nonempty parts)

one_more : (part : List ℕ) (parts : List (List ℕ)) → filled parts ≤ filled (part ∷ parts)
one_more [] parts = omega arith
one_more (b ∷ part) parts = omega arith

onto : (b : ℕ) (parts : List (List ℕ)) → filled (onto_first b parts) ≤ filled parts + 1
onto b [] = omega arith
onto b (part ∷ parts) = let h = one_more part parts in omega arith

split_filled : (line : List ℕ) → filled (slice_split is_blank line) ≤ length line
split_filled [] = omega arith
split_filled (b ∷ line) = by (is_blank b) refl (split_filled line)
  where
    by : (v : Bool) → is_blank b ≡ v → filled (slice_split is_blank line) ≤ length line
        → filled (slice_split is_blank (b ∷ line)) ≤ length (b ∷ line)
    by true e h = rw e (omega arith)
    by false e h = let k = onto b (slice_split is_blank line) in rw e (omega arith)

pub words_below : (number n : ℕ) (line : List ℕ) (words : Line) → words_on number line ≡ words → length line < n
    → length words < n
unfolding pieces
words_below number n line words e lt =
    let few = split_filled line in
    let same : length (words_on number line) ≡ filled (slice_split is_blank line) =
    length-map (filter is_nonempty (slice_split is_blank line))
    (λ (text : List ℕ). record { text = text; line = number }) in
    subst (λ (w : Line). length w < n) e (omega arith)
