-- The words behind `linearity`: whether so many are digits, and that the cap on a count changes nothing.
use Rattle.std.proofs.Common.{◌≡◌, ◌<◌, ◌≤◌, ◌-◌, ◌^◌, ℕ, zero, suc, Bool, true, false, Some, None, List, [], ◌∷◌, ◌++◌, length, take, map, refl, sym, ap, ◌∙◌, inl, inr, arith}
use Rattle.std.specs.Prelude.{◌&&◌, option_map}
use Rattle.std.proofs.lemmas.Bool.{cases_lt}
use Rattle.std.proofs.lemmas.List.{take_all}
use Rattle.poly_reader.specs.Lines.{Word}
use Rattle.plain_text.specs.Digits.{is_count, value_of, count_of, capped}
use Rattle.poly_reader.specs.Head.{Name, name_at, are_counts, names_rows}
use Rattle.poly_reader.proofs.CappedValues.{small}

pub counts_done : (left : ℕ) (words : List Word) → left ≤ 0 → true ≡ are_counts left words
unfolding are_counts
counts_done zero words le = refl
counts_done (suc left) words le = absurd (omega arith)

pub counts_missing : (left : ℕ) (words : List Word) → 0 < left → words ≡ [] → false ≡ are_counts left words
unfolding are_counts
counts_missing zero words lt e = absurd (omega arith)
counts_missing (suc left) words lt e = rw e refl

pub counts_bad : (left : ℕ) (w : Word) (words rest : List Word) → 0 < left → words ≡ w ∷ rest → is_count w.text ≡ false
    → false ≡ are_counts left words
unfolding are_counts
counts_bad zero w words rest lt e bad = absurd (omega arith)
counts_bad (suc left) w words rest lt e bad = rw (e, bad) refl

pub counts_next : (left : ℕ) (w : Word) (words rest : List Word) → 0 < left → words ≡ w ∷ rest → is_count w.text ≡ true
    → are_counts (left - 1) rest ≡ are_counts left words
unfolding are_counts
counts_next zero w words rest lt e good = absurd (omega arith)
counts_next (suc left) w words rest lt e good = let k : suc left - 1 ≡ left = omega arith in rw (k, e, good) refl

no_more : (b : Bool) → (b && false) ≡ false
no_more true = refl
no_more false = refl

counts_few : (k : ℕ) (words : List Word) → length words < k → are_counts k words ≡ false
unfolding are_counts
counts_few zero words lt = absurd (omega arith)
counts_few (suc k) [] lt = refl
counts_few (suc k) (w ∷ words) lt = rw (counts_few k words (omega arith)) (no_more (is_count w.text))

-- a count beyond the cap is more than a line has words
pub counts_capped : (k : ℕ) (words : List Word) → length words < 2 ^ 40
    → are_counts (capped k) words ≡ are_counts k words
counts_capped k words few = elim (cases_lt k (2 ^ 127)) [
  | inl lt ↦ rw (small k lt) refl
  | inr le ↦ counts_few (capped k) words (omega arith) ∙ sym (counts_few k words (omega arith))
]

pub take_capped : (k : ℕ) (words : List Word) → length words < 2 ^ 40 → take (capped k) words ≡ take k words
take_capped k words few = elim (cases_lt k (2 ^ 127)) [
  | inl lt ↦ rw (small k lt) refl
  | inr le ↦ take_all (capped k) words (omega arith) ∙ sym (take_all k words (omega arith))
]

-- a line with one word less
pub fewer : (w : Word) (words rest : List Word) → length words < 2 ^ 40 → words ≡ w ∷ rest → length rest < 2 ^ 40
fewer w words rest lt e = omega (arith, ap length e)

-- the count that is read, capped, and the words behind it
pub names_counted : (k : ℕ) (w : Word) (words rest : List Word) → words ≡ w ∷ rest → length words < 2 ^ 40
    → Some k ≡ option_map capped (count_of w.text) → are_counts k rest ≡ names_rows words
unfolding count_of
names_counted k w words rest e few h = by (is_count w.text) refl
  where
    by : (b : Bool) → is_count w.text ≡ b → are_counts k rest ≡ names_rows words
    by true c =
        let same : Some k ≡ Some (capped (value_of w.text)) = rw c at h in
        let k_is : k ≡ capped (value_of w.text) = cc in
        rw (e, c, k_is) (counts_capped (value_of w.text) rest (fewer w words rest few e))
    by false c = let none : Some k ≡ None = rw c at h in absurd cc

pub names_uncounted : (w : Word) (words rest : List Word) → words ≡ w ∷ rest
    → None ≡ option_map capped (count_of w.text) → false ≡ names_rows words
unfolding count_of
names_uncounted w words rest e h = by (is_count w.text) refl
  where
    by : (b : Bool) → is_count w.text ≡ b → false ≡ names_rows words
    by true c = let some : None ≡ Some (capped (value_of w.text)) = rw c at h in absurd cc
    by false c = rw (e, c) refl

-- the names of the first so many words
abbrev names : ℕ → ℕ → List Word → List Name
names line left words = map (name_at line) (take left words)

pub names_next : (line left : ℕ) (w : Word) (words rest : List Word) → 0 < left → words ≡ w ∷ rest
    → names line left words ≡ (name_at line w ∷ []) ++ names line (left - 1) rest
names_next line zero w words rest lt e = absurd (omega arith)
names_next line (suc left) w words rest lt e = let k : suc left - 1 ≡ left = omega arith in rw (e, k) refl

pub names_missing : (line left : ℕ) (words : List Word) → words ≡ [] → names line left words ≡ []
names_missing line zero words e = refl
names_missing line (suc left) words e = rw e refl

pub names_done : (line left : ℕ) (words : List Word) → left ≤ 0 → names line left words ≡ []
names_done line zero words le = refl
names_done line (suc left) words le = absurd (omega arith)
