-- The parts of an ascending list: each ascending list of some of its members is one, and how many there are.
use Rattle.std.proofs.Common.{◌≡◌, ◌⊎◌, inl, inr, ⊎_elim, ℕ, suc, ◌+◌, ◌*◌, ◌^◌, ◌≤◌, Bool, true, false, cond, List, [], ◌∷◌, ◌++◌, map, length, length-append, refl, sym, subst, ◌∙◌, arith}
use Rattle.std.specs.Prelude.{◌==◌, nat_lt}
use Rattle.std.specs.List.{Contains}
use Rattle.std.proofs.lemmas.Bool.{eqb-true}
use Rattle.std.proofs.Math.Nat.{pow-suc}
use Rattle.std.proofs.Math.Pow.{pow_mono}
use Rattle.std.proofs.lemmas.List.{length-map}
use Rattle.std.proofs.lemmas.List.Elements.{Contains-append_left, Contains-append_right}
use Rattle.poly_model.specs.Keys.{IsAscending, with_label}
use Rattle.poly_model.proofs.KeyLemmas.{ascending_with}
use Rattle.linear_laws.proofs.Members.{Contains-nil, Contains-first, Contains-later, Contains-cons_cases, above_first}
use Rattle.dictionary_laws.proofs.Members.{contains_cases, contains_other}

abbrev pub sublists : List ℕ → List (List ℕ)
sublists [] = [] ∷ []
sublists (x ∷ xs) = map (λ part. x ∷ part) (sublists xs) ++ sublists xs

length-sublists : (xs : List ℕ) → length (sublists xs) ≡ 2 ^ length xs
length-sublists [] = refl
length-sublists (x ∷ xs) =
    length-append (map (λ part. x ∷ part) (sublists xs)) (sublists xs)
    ∙ twice (length (map (λ part. x ∷ part) (sublists xs))) (length (sublists xs)) (2 ^ length xs)
    (length-map (sublists xs) (λ part. x ∷ part)) (length-sublists xs)
    ∙ sym (pow-suc 2 (length xs))
  where
    twice : (a b p : ℕ) → a ≡ b → b ≡ p → a + b ≡ p * 2
    twice a b p e f = omega (arith, e, f)

contains_longer : (x : ℕ) (parts : List (List ℕ)) (part : List ℕ) → Contains parts part →
    Contains (map (λ part. x ∷ part) parts) (x ∷ part)
contains_longer x [] part c = absurd (Contains-nil part c)
contains_longer x (p ∷ parts) part c =
    ⊎_elim
    (λ (e : p ≡ part). subst (λ q. Contains (map (λ part. x ∷ part) (p ∷ parts)) (x ∷ q)) e
    (Contains-first (x ∷ p) (map (λ part. x ∷ part) parts)))
    (λ (d : Contains parts part). Contains-later (x ∷ part) (x ∷ p) (map (λ part. x ∷ part) parts)
    (contains_longer x parts part d))
    (Contains-cons_cases part p parts c)

pub contains_part : (xs ks : List ℕ) → IsAscending xs → IsAscending ks →
    ((k : ℕ) → Contains ks k → Contains xs k) → Contains (sublists xs) ks
contains_part [] [] a b h = Contains-first [] []
contains_part [] (k ∷ ks) a b h = absurd (Contains-nil k (h k (Contains-first k ks)))
contains_part (x ∷ xs) [] a b h =
    Contains-append_right (map (λ part. x ∷ part) (sublists xs)) (sublists xs) []
    (contains_part xs [] a.1 b (λ k c. absurd (Contains-nil k c)))
contains_part (x ∷ xs) (k ∷ ks) a b h =
    ⊎_elim
    (λ (e : k ≡ x). subst (λ y. Contains (sublists (x ∷ xs)) (y ∷ ks)) (sym e)
    (Contains-append_left (map (λ part. x ∷ part) (sublists xs)) (sublists xs) (x ∷ ks)
    (contains_longer x (sublists xs) ks (contains_part xs ks a.1 b.1
    (λ j c. contains_other x xs j (h j (Contains-later j k ks c))
    (λ f. let l = above_first k ks b j c in omega arith))))))
    (λ (c : Contains xs k). Contains-append_right (map (λ part. x ∷ part) (sublists xs)) (sublists xs) (k ∷ ks)
    (contains_part xs (k ∷ ks) a.1 b
    (λ j d. contains_other x xs j (h j d) (λ f. let l = above_first x xs a k c in
    ⊎_elim (λ (g : j ≡ k). omega arith) (λ (i : Contains ks j). let m = above_first k ks b j i in omega arith)
    (contains_cases k ks j d)))))
    (contains_cases x xs k (h k (Contains-first k ks)))

-- ---- the members of any list, ascending
abbrev pub ordered : List ℕ → List ℕ
ordered [] = []
ordered (x ∷ xs) = with_label x (ordered xs)

ordered_ascending : (xs : List ℕ) → IsAscending (ordered xs)
ordered_ascending [] = tt
ordered_ascending (x ∷ xs) = ascending_with x (ordered xs) (ordered_ascending xs)

with_has : (label : ℕ) (ks : List ℕ) (k : ℕ) → (k ≡ label) ⊎ Contains ks k → Contains (with_label label ks) k
with_has label [] k h =
    ⊎_elim (λ (e : k ≡ label). subst (λ y. Contains (label ∷ []) y) (sym e) (Contains-first label []))
    (λ (c : Contains [] k). absurd (Contains-nil k c)) h
with_has label (x ∷ ks) k h = by (nat_lt label x) (label == x) refl (with_has label ks k)
  where
    by : (l e : Bool) → (label == x) ≡ e → ((k ≡ label) ⊎ Contains ks k → Contains (with_label label ks) k) →
        Contains (cond l (label ∷ x ∷ ks) (cond e (x ∷ ks) (x ∷ with_label label ks))) k
    by true e f rest =
        ⊎_elim
        (λ (g : k ≡ label). subst (λ y. Contains (label ∷ x ∷ ks) y) (sym g) (Contains-first label (x ∷ ks)))
        (λ (c : Contains (x ∷ ks) k). Contains-later k label (x ∷ ks) c) h
    by false true f rest =
        ⊎_elim
        (λ (g : k ≡ label). subst (λ y. Contains (x ∷ ks) y) (sym (g ∙ eqb-true label x f)) (Contains-first x ks))
        (λ (c : Contains (x ∷ ks) k). c) h
    by false false f rest =
        ⊎_elim
        (λ (g : k ≡ label). Contains-later k x (with_label label ks) (rest (inl g)))
        (λ (c : Contains (x ∷ ks) k). ⊎_elim
        (λ (g : k ≡ x). subst (λ y. Contains (x ∷ with_label label ks) y) (sym g)
        (Contains-first x (with_label label ks)))
        (λ (d : Contains ks k). Contains-later k x (with_label label ks) (rest (inr d)))
        (contains_cases x ks k c)) h

with_length : (label : ℕ) (ks : List ℕ) → length (with_label label ks) ≤ suc (length ks)
with_length label [] = omega arith
with_length label (x ∷ xs) = by (nat_lt label x) (label == x) (with_length label xs)
  where
    by : (l e : Bool) → length (with_label label xs) ≤ suc (length xs) →
        length (cond l (label ∷ x ∷ xs) (cond e (x ∷ xs) (x ∷ with_label label xs))) ≤ suc (suc (length xs))
    by true e h = omega arith
    by false true h = omega arith
    by false false h = omega (arith, h)

ordered_length : (xs : List ℕ) → length (ordered xs) ≤ length xs
ordered_length [] = omega arith
ordered_length (x ∷ xs) = omega (arith, with_length x (ordered xs), ordered_length xs)

ordered_has : (xs : List ℕ) (k : ℕ) → Contains xs k → Contains (ordered xs) k
ordered_has [] k c = c
ordered_has (x ∷ xs) k c =
    with_has x (ordered xs) k
    (⊎_elim (λ (e : k ≡ x). inl e) (λ (d : Contains xs k). inr (ordered_has xs k d)) (contains_cases x xs k c))

-- all ascending lists of members
abbrev pub ascending_parts : List ℕ → List (List ℕ)
ascending_parts xs = sublists (ordered xs)

pub contains_ascending : (xs ks : List ℕ) → IsAscending ks → ((k : ℕ) → Contains ks k → Contains xs k) →
    Contains (ascending_parts xs) ks
contains_ascending xs ks a h =
    contains_part (ordered xs) ks (ordered_ascending xs) a (λ k c. ordered_has xs k (h k c))

-- there are no more than subsets
pub length-ascending_parts : (xs : List ℕ) → length (ascending_parts xs) ≤ 2 ^ length xs
length-ascending_parts xs =
    subst (λ n. n ≤ 2 ^ length xs) (sym (length-sublists (ordered xs))) (pow_mono (ordered_length xs))
