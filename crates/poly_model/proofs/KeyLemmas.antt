-- Ascending lists with one label more or less, and equal keys.
use Rattle.std.proofs.Common.{◌≡◌, ◌≢◌, ◌≤◌, ◌<◌, ◌+◌, ◌++◌, ◌-◌, ◌∷◌, [], ℕ, zero, suc, Bool, true, false, cond, List, length, take, drop, get_or, arith, refl, sym, ap, subst, ◌∙◌, add-one}
use Rattle.std.proofs.Math.ListN.{replicate}
use Rattle.std.proofs.Math.Seq.{take-append_seam}
use Rattle.std.proofs.Math.Dec.{eqb}
use lib.Pointwise.{pointwise}
use Rattle.std.proofs.lemmas.Slice.Eq.{slice_eq-Decides}
use Rattle.std.proofs.lemmas.Bool.Decides.{Decides-eqb, Decides-and}
use Rattle.std.specs.Prelude.{insert, nat_lt, nat_le, ◌==◌, ◌&&◌}
use Rattle.std.proofs.lemmas.Bool.{ltb-true, ltb-false, leb-true, leb-false, eqb-true, eqb-false}
use Rattle.std.specs.List.{AllByRecursion}
use Rattle.std.specs.List.Sorted.{IsStrictlyIncreasing}
use Rattle.poly_model.specs.Limits.{most_labels}
use Rattle.poly_model.specs.Keys.{IsAscending, IsKey, lower_of, with_label}

-- one number less
all_without : (P : ℕ → Type 0) (i : ℕ) (xs : List ℕ) → AllByRecursion P xs → AllByRecursion P (take i xs ++ drop (suc i) xs)
all_without P zero [] h = tt
all_without P (suc i) [] h = tt
all_without P zero (x ∷ xs) h = h.1
all_without P (suc i) (x ∷ xs) h = (h.0, all_without P i xs h.1)

ascending_without : (i : ℕ) (xs : List ℕ) → IsAscending xs → IsAscending (take i xs ++ drop (suc i) xs)
ascending_without zero [] h = tt
ascending_without (suc i) [] h = tt
ascending_without zero (x ∷ xs) h = h.1
ascending_without (suc i) (x ∷ xs) h = (all_without (λ y. x < y) i xs h.0, ascending_without i xs h.1)

length_without : (i : ℕ) (xs : List ℕ) → length (take i xs ++ drop (suc i) xs) ≤ length xs
length_without zero [] = omega arith
length_without (suc i) [] = omega arith
length_without zero (x ∷ xs) = omega arith
length_without (suc i) (x ∷ xs) = omega (arith, length_without i xs)

pub key_without : (i : ℕ) (xs : List ℕ) → IsKey xs → IsKey (take i xs ++ drop (i + 1) xs)
key_without i xs h = rw (add-one) (record { room = omega (arith, h.room, length_without i xs); ascending = ascending_without i xs h.ascending })

-- one number more
above_all : (a b : ℕ) (xs : List ℕ) → a < b → AllByRecursion (λ y. b < y) xs → AllByRecursion (λ y. a < y) xs
above_all a b [] l h = tt
above_all a b (x ∷ xs) l h = let f : b < x = h.0 in (omega arith, above_all a b xs l h.1)

all_with : (P : ℕ → Type 0) (label : ℕ) (xs : List ℕ) → P label → AllByRecursion P xs → AllByRecursion P (with_label label xs)
all_with P label [] p h = (p, tt)
all_with P label (x ∷ xs) p h = by (all_with P label xs p h.1) (nat_lt label x) (label == x)
  where
    by : AllByRecursion P (with_label label xs) → (t e : Bool) → AllByRecursion P (cond t (label ∷ x ∷ xs) (cond e (x ∷ xs) (x ∷ with_label label xs)))
    by rest true e = (p, h)
    by rest false true = h
    by rest false false = (h.0, rest)

length_with : (label : ℕ) (xs : List ℕ) → length (with_label label xs) ≤ length xs + 1
length_with label [] = omega arith
length_with label (x ∷ xs) = by (length_with label xs) (nat_lt label x) (label == x)
  where
    by : length (with_label label xs) ≤ length xs + 1 → (t e : Bool) → length (cond t (label ∷ x ∷ xs) (cond e (x ∷ xs) (x ∷ with_label label xs))) ≤ length (x ∷ xs) + 1
    by rest true e = omega arith
    by rest false true = omega arith
    by rest false false = omega arith

pub ascending_with : (label : ℕ) (xs : List ℕ) → IsAscending xs → IsAscending (with_label label xs)
ascending_with label [] h = (tt, tt)
ascending_with label (x ∷ xs) h = by (ascending_with label xs h.1) (nat_lt label x) (label == x) refl refl
  where
    by : IsAscending (with_label label xs) → (t e : Bool) → nat_lt label x ≡ t → (label == x) ≡ e → IsAscending (cond t (label ∷ x ∷ xs) (cond e (x ∷ xs) (x ∷ with_label label xs)))
    by rest true e l m = let below : label < x = ltb-true label x l in ((below, above_all label x xs below h.0), h)
    by rest false true l m = h
    by rest false false l m =
        let above : x < label = omega (arith, ltb-false label x l, eqb-false label x m) in
        (all_with (λ y. x < y) label xs above h.0, rest)

pub key_with : (label : ℕ) (xs : List ℕ) → IsKey xs → length xs < most_labels → IsKey (with_label label xs)
key_with label xs h room = record { room = omega (arith, length_with label xs); ascending = ascending_with label xs h.ascending }

-- the place of a label that is there
pub with_old : (label : ℕ) (xs : List ℕ) → lower_of label xs < length xs → get_or xs (lower_of label xs) 0 ≡ label → with_label label xs ≡ xs
with_old label [] l e = absurd (omega arith)
with_old label (x ∷ xs) l e = by (with_old label xs) (nat_le label x) (nat_lt label x) (label == x) refl refl refl l e
  where
    by : (lower_of label xs < length xs → get_or xs (lower_of label xs) 0 ≡ label → with_label label xs ≡ xs) →
        (s t e : Bool) → nat_le label x ≡ s → nat_lt label x ≡ t → (label == x) ≡ e →
        cond s zero (suc (lower_of label xs)) < length (x ∷ xs) → get_or (x ∷ xs) (cond s zero (suc (lower_of label xs))) 0 ≡ label →
        cond t (label ∷ x ∷ xs) (cond e (x ∷ xs) (x ∷ with_label label xs)) ≡ x ∷ xs
    by same true true e k l m r f = absurd (omega (arith, ltb-true label x l))
    by same true false true k l m r f = refl
    by same true false false k l m r f = absurd (eqb-false label x m (sym f))
    by same false true e k l m r f = absurd (omega (arith, ltb-true label x l, leb-false label x k))
    by same false false true k l m r f = refl
    by same false false false k l m r f = ap (λ ys. x ∷ ys) (same (omega arith) f)

-- the place of a label that is new
pub with_new : (label : ℕ) (xs : List ℕ) → (lower_of label xs < length xs → get_or xs (lower_of label xs) 0 ≢ label) →
    with_label label xs ≡ insert xs (lower_of label xs) label
with_new label [] n = refl
with_new label (x ∷ xs) n = by (with_new label xs) (nat_le label x) (nat_lt label x) (label == x) refl refl refl n
  where
    by : ((lower_of label xs < length xs → get_or xs (lower_of label xs) 0 ≢ label) → with_label label xs ≡ insert xs (lower_of label xs) label) →
        (s t e : Bool) → nat_le label x ≡ s → nat_lt label x ≡ t → (label == x) ≡ e →
        (cond s zero (suc (lower_of label xs)) < length (x ∷ xs) → get_or (x ∷ xs) (cond s zero (suc (lower_of label xs))) 0 ≢ label) →
        cond t (label ∷ x ∷ xs) (cond e (x ∷ xs) (x ∷ with_label label xs)) ≡
        insert (x ∷ xs) (cond s zero (suc (lower_of label xs))) label
    by same true true e k l m n = refl
    by same true false true k l m n = absurd (n (omega arith) (sym (eqb-true label x m)))
    by same true false false k l m n = absurd (omega (arith, ltb-false label x l, leb-true label x k, eqb-false label x m))
    by same false true e k l m n = absurd (omega (arith, ltb-true label x l, leb-false label x k))
    by same false false true k l m n = absurd (omega (arith, eqb-true label x m, leb-false label x k))
    by same false false false k l m n = ap (λ ys. x ∷ ys) (same (λ r. n (omega arith)))

pub key_with_new : (label : ℕ) (xs : List ℕ) → IsKey xs → length xs < most_labels → (lower_of label xs < length xs → get_or xs (lower_of label xs) 0 ≢ label) →
    IsKey (insert xs (lower_of label xs) label)
key_with_new label xs h l n = subst IsKey (with_new label xs n) (key_with label xs h l)

-- neighbours that rise
rises_tail : (x : ℕ) (xs : List ℕ) → IsStrictlyIncreasing (x ∷ xs) → IsStrictlyIncreasing xs
rises_tail x xs h k l = rw (add-one) (rw (add-one) at (h (suc k) (omega arith)))

above_first : (a : ℕ) (xs : List ℕ) → IsStrictlyIncreasing (a ∷ xs) → AllByRecursion (λ y. a < y) xs
above_first a [] h = tt
above_first a (x ∷ xs) h = let l : a < x = h 0 (omega arith) in (l, above_all a x xs l (above_first x xs (rises_tail a (x ∷ xs) h)))

pub ascending_from_neighbours : (xs : List ℕ) → IsStrictlyIncreasing xs → IsAscending xs
ascending_from_neighbours [] h = tt
ascending_from_neighbours (x ∷ xs) h = (above_first x xs h, ascending_from_neighbours xs (rises_tail x xs h))

pub neighbours_ascend : (xs : List ℕ) → IsAscending xs → IsStrictlyIncreasing xs
neighbours_ascend [] h k l = absurd (omega arith)
neighbours_ascend (x ∷ []) h k l = absurd (omega arith)
neighbours_ascend (x ∷ y ∷ xs) h zero l = h.0.0
neighbours_ascend (x ∷ y ∷ xs) h (suc k) l = rw (add-one) (rw (add-one) at (neighbours_ascend (y ∷ xs) h.1 k (omega arith)))

-- ---- equality

-- a key with the rest of its room
abbrev pub padded : List ℕ → List ℕ
padded ls = ls ++ replicate (most_labels - length ls) 0

unpadded : (a b : List ℕ) → length a ≡ length b → padded a ≡ padded b → a ≡ b
unpadded a b l e =
    sym (take-append_seam a (replicate (most_labels - length a) 0)) ∙ ap (take (length a)) e ∙ ap (λ n. take n (padded b)) l ∙ take-append_seam b (replicate (most_labels - length b) 0)

-- keys whose rooms and lengths are equal are equal
pub same_labels : (a b : List ℕ) (r : Bool) → r ≡ (pointwise eqb (padded a) (padded b) && eqb (length a) (length b)) → (r ≡ true → a ≡ b) × (a ≡ b → r ≡ true)
same_labels a b r e =
    let rooms = slice_eq-Decides Decides-eqb (padded a) (padded b) (pointwise eqb (padded a) (padded b)) refl in
    let both = Decides-and (pointwise eqb (padded a) (padded b)) (eqb (length a) (length b)) rooms (Decides-eqb (length a) (length b)) in (
      (λ t. let parts = both.0 (sym e ∙ t) in unpadded a b parts.1 parts.0),
      (λ s. e ∙ both.1 (ap padded s, ap length s)),
    )
