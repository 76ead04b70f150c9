-- Lists of labels in parts: members, and each label once.
use Rattle.std.proofs.Common.{◌≡◌, ⊎_elim, ℕ, ◌+◌, ◌<◌, ◌≤◌, List, [], ◌∷◌, ◌++◌, sym, ap, subst, ◌∙◌, get_or, arith}
use Rattle.std.proofs.lemmas.Bool.{cases_lt}
use Rattle.std.proofs.lemmas.List.{get_or_default}
use Rattle.std.specs.List.{Contains}
use Rattle.std.proofs.lemmas.List.Elements.{Contains-append_left, Contains-append_right, Contains-append_cases}
use Rattle.linear_laws.specs.Distinct.{AreDistinct}
use Rattle.linear_laws.proofs.Members.{Contains-nil, Contains-first, Contains-later}
use Rattle.dictionary_laws.proofs.Members.{by_cases}

-- no label stands in both
abbrev pub AreApart : List ℕ → List ℕ → Type 0
AreApart xs ys = (k : ℕ) → Contains xs k → Contains ys k → ⊥

pub distinct-append : (xs ys : List ℕ) → AreDistinct xs → AreDistinct ys → AreApart xs ys → AreDistinct (xs ++ ys)
distinct-append [] ys a b h = b
distinct-append (x ∷ xs) ys a b h = (
  λ c. ⊎_elim a.0 (h x (Contains-first x xs)) (Contains-append_cases xs ys x c),
  distinct-append xs ys a.1 b (λ k c d. h k (Contains-later k x xs c) d),
)

pub distinct_left : (xs ys : List ℕ) → AreDistinct (xs ++ ys) → AreDistinct xs
distinct_left [] ys h = tt
distinct_left (x ∷ xs) ys h = (λ c. h.0 (Contains-append_left xs ys x c), distinct_left xs ys h.1)

pub distinct_right : (xs ys : List ℕ) → AreDistinct (xs ++ ys) → AreDistinct ys
distinct_right [] ys h = h
distinct_right (x ∷ xs) ys h = distinct_right xs ys h.1

pub distinct_apart : (xs ys : List ℕ) → AreDistinct (xs ++ ys) → AreApart xs ys
distinct_apart [] ys h k c d = Contains-nil k c
distinct_apart (x ∷ xs) ys h k c d =
    by_cases (λ j. Contains ys j → ⊥) x xs (λ e. h.0 (Contains-append_right xs ys x e))
    (λ j i e. distinct_apart xs ys h.1 j i e) k c d

-- ---- three parts
-- a fact of each label of the three lists
pub in_parts : (P : ℕ → Type 0) (xs ys zs : List ℕ) → ((k : ℕ) → Contains xs k → P k) →
    ((k : ℕ) → Contains ys k → P k) →
    ((k : ℕ) → Contains zs k → P k) → (k : ℕ) → Contains (xs ++ (ys ++ zs)) k → P k
in_parts P xs ys zs f g h k c =
    ⊎_elim (f k) (λ d. ⊎_elim (g k) (h k) (Contains-append_cases ys zs k d)) (Contains-append_cases xs (ys ++ zs) k c)

pub in_first : (xs ys zs : List ℕ) (k : ℕ) → Contains xs k → Contains (xs ++ (ys ++ zs)) k
in_first xs ys zs k c = Contains-append_left xs (ys ++ zs) k c

pub in_second : (xs ys zs : List ℕ) (k : ℕ) → Contains ys k → Contains (xs ++ (ys ++ zs)) k
in_second xs ys zs k c = Contains-append_right xs (ys ++ zs) k (Contains-append_left ys zs k c)

pub in_third : (xs ys zs : List ℕ) (k : ℕ) → Contains zs k → Contains (xs ++ (ys ++ zs)) k
in_third xs ys zs k c = Contains-append_right xs (ys ++ zs) k (Contains-append_right ys zs k c)

-- ---- up to a place
-- a fact of the elements before place i and of that at it
pub with_next : (P : ℕ → Type 0) (xs : List ℕ) (i : ℕ) → ((k : ℕ) (c : Contains xs k) → c.0 < i → P k) →
    P (get_or xs i 0) → (k : ℕ) (c : Contains xs k) → c.0 < i + 1 → P k
with_next P xs i h p k c l =
    ⊎_elim (h k c)
    (λ (m : i ≤ c.0). let e : c.0 ≡ i = omega arith in
    subst P (ap (λ j. get_or xs j 0) (sym e) ∙ get_or_default xs c.0 0 k c.1 ∙ c.2) p)
    (cases_lt c.0 i)
