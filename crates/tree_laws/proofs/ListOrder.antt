-- The order of the members of a list: which of two stands before the other, and the first and the last with a property.
use Rattle.std.proofs.Common.{◌≡◌, ◌≢◌, ◌⊎◌, inl, inr, ⊎_elim, ℕ, ◌<◌, List, [], ◌∷◌, ◌++◌, sym, subst, ◌∙◌, arith}
use Rattle.std.specs.List.{Contains}
use Rattle.std.proofs.lemmas.List.Elements.{Contains-append_left, Contains-append_right, Contains-append_cases}
use Rattle.poly_model.specs.Keys.{IsAscending}
use Rattle.poly_model.specs.LexOrder.{backwards, Precedes}
use Rattle.linear_laws.specs.Distinct.{AreDistinct}
use Rattle.linear_laws.proofs.Members.{Contains-nil, Contains-first, Contains-later, all_at}
use Rattle.linear_laws.proofs.Distinct.{distinct_append}
use Rattle.dictionary_laws.proofs.Members.{contains_cases, by_cases}

-- ---- one stands before the other
pub precedes_members : (xs : List ℕ) (k i : ℕ) → Precedes xs k i → Contains xs k × Contains xs i
precedes_members [] k i h = absurd h
precedes_members (x ∷ xs) k i (inl h) =
    (subst (λ y. Contains (x ∷ xs) y) (sym h.0) (Contains-first x xs), Contains-later i x xs h.1)
precedes_members (x ∷ xs) k i (inr h) =
    let m = precedes_members xs k i h in (Contains-later k x xs m.0, Contains-later i x xs m.1)

-- nothing stands before the first
pub none_before : (x : ℕ) (xs : List ℕ) (k : ℕ) → (Contains xs x → ⊥) → Precedes (x ∷ xs) k x → ⊥
none_before x xs k n (inl h) = n h.1
none_before x xs k n (inr h) = n (precedes_members xs k x h).1

first_stays : (x : ℕ) (xs : List ℕ) (k i : ℕ) → (Contains xs x → ⊥) → k ≡ x → Precedes (x ∷ xs) i k → ⊥
first_stays x xs k i n e h = none_before x xs i n (subst (λ y. Precedes (x ∷ xs) i y) e h)

pub not_before_itself : (xs : List ℕ) (k : ℕ) → AreDistinct xs → Precedes xs k k → ⊥
not_before_itself [] k d h = h
not_before_itself (x ∷ xs) k d (inl h) = d.0 (subst (λ y. Contains xs y) h.0 h.1)
not_before_itself (x ∷ xs) k d (inr h) = not_before_itself xs k d.1 h

pub before_transitive : (xs : List ℕ) (k i j : ℕ) → AreDistinct xs → Precedes xs k i → Precedes xs i j →
    Precedes xs k j
before_transitive [] k i j d h g = h
before_transitive (x ∷ xs) k i j d (inl h) (inl g) = inl (h.0, g.1)
before_transitive (x ∷ xs) k i j d (inl h) (inr g) = inl (h.0, (precedes_members xs i j g).1)
before_transitive (x ∷ xs) k i j d (inr h) (inl g) = absurd (first_stays x xs i k d.0 g.0 (inr h))
before_transitive (x ∷ xs) k i j d (inr h) (inr g) = inr (before_transitive xs k i j d.1 h g)

pub not_before_and_behind : (xs : List ℕ) (k i : ℕ) → AreDistinct xs → Precedes xs k i → Precedes xs i k → ⊥
not_before_and_behind xs k i d h g = not_before_itself xs k d (before_transitive xs k i k d h g)

pub before_is_other : (xs : List ℕ) (k i : ℕ) → AreDistinct xs → Precedes xs k i → k ≢ i
before_is_other xs k i d h e = not_before_itself xs i d (subst (λ y. Precedes xs y i) e h)

pub one_before_other : (xs : List ℕ) (k i : ℕ) → Contains xs k → Contains xs i → k ≢ i →
    Precedes xs k i ⊎ Precedes xs i k
one_before_other [] k i c d n = absurd (Contains-nil k c)
one_before_other (x ∷ xs) k i c d n =
    ⊎_elim
    (λ (e : k ≡ x). ⊎_elim
    (λ (f : i ≡ x). absurd (n (e ∙ sym f)))
    (λ (b : Contains xs i). inl (inl (e, b))) (contains_cases x xs i d))
    (λ (a : Contains xs k). ⊎_elim
    (λ (f : i ≡ x). inr (inl (f, a)))
    (λ (b : Contains xs i). ⊎_elim
    (λ (h : Precedes xs k i). inl (inr h)) (λ (h : Precedes xs i k). inr (inr h))
    (one_before_other xs k i a b n)) (contains_cases x xs i d))
    (contains_cases x xs k c)

-- ---- lists one behind the other
pub before_across : (xs ys : List ℕ) (k i : ℕ) → Contains xs k → Contains ys i → Precedes (xs ++ ys) k i
before_across [] ys k i c d = absurd (Contains-nil k c)
before_across (x ∷ xs) ys k i c d =
    ⊎_elim
    (λ (e : k ≡ x). inl (e, Contains-append_right xs ys i d))
    (λ (b : Contains xs k). inr (before_across xs ys k i b d))
    (contains_cases x xs k c)

pub before_in_front : (xs ys : List ℕ) (k i : ℕ) → Precedes xs k i → Precedes (xs ++ ys) k i
before_in_front [] ys k i h = absurd h
before_in_front (x ∷ xs) ys k i (inl h) = inl (h.0, Contains-append_left xs ys i h.1)
before_in_front (x ∷ xs) ys k i (inr h) = inr (before_in_front xs ys k i h)

pub before_behind : (xs ys : List ℕ) (k i : ℕ) → Precedes ys k i → Precedes (xs ++ ys) k i
before_behind [] ys k i h = h
before_behind (x ∷ xs) ys k i h = inr (before_behind xs ys k i h)

pub before_cases : (xs ys : List ℕ) (k i : ℕ) → Precedes (xs ++ ys) k i →
    Precedes xs k i ⊎ ((Contains xs k × Contains ys i) ⊎ Precedes ys k i)
before_cases [] ys k i h = inr (inr h)
before_cases (x ∷ xs) ys k i (inl h) =
    ⊎_elim
    (λ (c : Contains xs i). inl (inl (h.0, c)))
    (λ (c : Contains ys i). inr (inl (subst (λ y. Contains (x ∷ xs) y) (sym h.0) (Contains-first x xs), c)))
    (Contains-append_cases xs ys i h.1)
before_cases (x ∷ xs) ys k i (inr h) =
    ⊎_elim
    (λ (p : Precedes xs k i). inl (inr p))
    (λ (r : (Contains xs k × Contains ys i) ⊎ Precedes ys k i). ⊎_elim
    (λ (c : Contains xs k × Contains ys i). inr (inl (Contains-later k x xs c.0, c.1)))
    (λ (p : Precedes ys k i). inr (inr p)) r)
    (before_cases xs ys k i h)

-- ---- in an ascending list the smaller stand first
pub smaller_is_before : (xs : List ℕ) (k i : ℕ) → IsAscending xs → Contains xs k → Contains xs i → k < i →
    Precedes xs k i
smaller_is_before [] k i a c d l = absurd (Contains-nil k c)
smaller_is_before (x ∷ xs) k i a c d l =
    ⊎_elim
    (λ (e : i ≡ x). absurd (⊎_elim
    (λ (f : k ≡ x). omega arith)
    (λ (b : Contains xs k). let m : x < k = all_at (λ y. x < y) xs a.0 k b in omega arith) (contains_cases x xs k c)))
    (λ (b : Contains xs i). ⊎_elim
    (λ (f : k ≡ x). inl (f, b))
    (λ (g : Contains xs k). inr (smaller_is_before xs k i a.1 g b l)) (contains_cases x xs k c))
    (contains_cases x xs i d)

pub before_is_smaller : (xs : List ℕ) (k i : ℕ) → IsAscending xs → Precedes xs k i → k < i
before_is_smaller [] k i a h = absurd h
before_is_smaller (x ∷ xs) k i a (inl h) =
    let e : k ≡ x = h.0 in let m : x < i = all_at (λ y. x < y) xs a.0 i h.1 in omega arith
before_is_smaller (x ∷ xs) k i a (inr h) = before_is_smaller xs k i a.1 h

-- ---- backwards
pub backwards_has : (xs : List ℕ) (k : ℕ) → Contains xs k → Contains (backwards xs) k
backwards_has [] k c = c
backwards_has (x ∷ xs) k c =
    by_cases (λ j. Contains (backwards (x ∷ xs)) j) x xs
    (Contains-append_right (backwards xs) (x ∷ []) x (Contains-first x []))
    (λ j d. Contains-append_left (backwards xs) (x ∷ []) j (backwards_has xs j d)) k c

pub backwards_only : (xs : List ℕ) (k : ℕ) → Contains (backwards xs) k → Contains xs k
backwards_only [] k c = c
backwards_only (x ∷ xs) k c =
    ⊎_elim
    (λ (d : Contains (backwards xs) k). Contains-later k x xs (backwards_only xs k d))
    (λ (d : Contains (x ∷ []) k). by_cases (λ j. Contains (x ∷ xs) j) x [] (Contains-first x xs)
    (λ j i. absurd (Contains-nil j i)) k d)
    (Contains-append_cases (backwards xs) (x ∷ []) k c)

pub backwards_distinct : (xs : List ℕ) → AreDistinct xs → AreDistinct (backwards xs)
backwards_distinct [] d = tt
backwards_distinct (x ∷ xs) d =
    distinct_append (backwards xs) (x ∷ []) (backwards_distinct xs d.1) (Contains-nil x, tt)
    (λ k a b. by_cases (λ j. Contains (backwards xs) j → ⊥) x [] (λ c. d.0 (backwards_only xs x c))
    (λ j i. absurd (Contains-nil j i)) k b a)

pub backwards_before : (xs : List ℕ) (k i : ℕ) → Precedes xs k i → Precedes (backwards xs) i k
backwards_before [] k i h = h
backwards_before (x ∷ xs) k i (inl h) =
    subst (λ y. Precedes (backwards (x ∷ xs)) i y) (sym h.0)
    (before_across (backwards xs) (x ∷ []) i x (backwards_has xs i h.1) (Contains-first x []))
backwards_before (x ∷ xs) k i (inr h) =
    before_in_front (backwards xs) (x ∷ []) i k (backwards_before xs k i h)

pub before_backwards : (xs : List ℕ) (k i : ℕ) → AreDistinct xs → Precedes (backwards xs) i k → Precedes xs k i
before_backwards xs k i d h =
    let m = precedes_members (backwards xs) i k h in
    let e = backwards_distinct xs d in
    ⊎_elim
    (λ (p : Precedes xs k i). p)
    (λ (p : Precedes xs i k). absurd (not_before_and_behind (backwards xs) i k e h (backwards_before xs i k p)))
    (one_before_other xs k i (backwards_only xs k m.1) (backwards_only xs i m.0)
    (λ f. before_is_other (backwards xs) i k e h (sym f)))
