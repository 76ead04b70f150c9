-- The labels that pass a test, labels in a row, labels of coordinates, and members of a list.
use Rattle.std.proofs.Common.{◌≡◌, ℕ, zero, suc, ◌+◌, ◌≤◌, ◌<◌, Bool, true, false, List, [], ◌∷◌, ℤ, pos, ◌+ℤ◌, map, refl, sym, ap, subst, ◌∙◌, ⊎_elim, arith, ◌-◌}
use Rattle.std.specs.List.{Contains, filter, range_with_len}
use Rattle.std.proofs.lemmas.Bool.{eqb-true, eq-eqb, or_cases, or_left, or_right, cond_both, cases_eq}
use Rattle.std.specs.Prelude.{◌==◌}
use Rattle.std.proofs.lemmas.List.Elements.{Contains-append_right}
use Rattle.poly_num.proofs.Ring.{lin}
use Rattle.poly_model.specs.Spaces.{is_member, labels_of}
use Rattle.poly_model.specs.Dictionaries.{sum_over}
use Rattle.poly_model.specs.Keys.{IsAscending}
use Rattle.poly_model.specs.Labels.{coordinate_label}
use Rattle.linear_laws.specs.Distinct.{AreDistinct}
use Rattle.linear_laws.proofs.Members.{Contains-nil, Contains-first, Contains-later, all_at}
use Rattle.dictionary_laws.proofs.Members.{contains_cases, by_cases, all_from}

-- ---- filters
filter_step : (P : List ℕ → Type 0) (test : ℕ → Bool) (x : ℕ) (ks : List ℕ) →
    (test x ≡ true → P (x ∷ filter test ks)) → (test x ≡ false → P (filter test ks)) →
    P (filter test (x ∷ ks))
filter_step P test x ks = cond_both (test x) (x ∷ filter test ks) (filter test ks) P

pub filter_only : (test : ℕ → Bool) (ks : List ℕ) (k : ℕ) → Contains (filter test ks) k →
    Contains ks k × (test k ≡ true)
filter_only test [] k c = absurd (Contains-nil k c)
filter_only test (x ∷ ks) k c =
    let later : (j : ℕ) → Contains (filter test ks) j → Contains (x ∷ ks) j × (test j ≡ true) =
    λ j i. let h = filter_only test ks j i in (Contains-later j x ks h.0, h.1) in
    filter_step (λ (l : List ℕ). Contains l k → Contains (x ∷ ks) k × (test k ≡ true)) test x ks
    (λ e d. by_cases (λ (j : ℕ). Contains (x ∷ ks) j × (test j ≡ true)) x (filter test ks)
    (Contains-first x ks, e) later k d)
    (λ e d. later k d)
    c

pub filter_kept : (test : ℕ → Bool) (ks : List ℕ) (k : ℕ) → Contains ks k → test k ≡ true →
    Contains (filter test ks) k
filter_kept test [] k c t = absurd (Contains-nil k c)
filter_kept test (x ∷ ks) k c t =
    filter_step (λ (l : List ℕ). Contains l k) test x ks
    (λ e. ⊎_elim
    (λ (f : k ≡ x). subst (λ (j : ℕ). Contains (j ∷ filter test ks) k) f (Contains-first k (filter test ks)))
    (λ (d : Contains ks k). Contains-later k x (filter test ks) (filter_kept test ks k d t))
    (contains_cases x ks k c))
    (λ e. ⊎_elim
    (λ (f : k ≡ x). let g : true ≡ false = sym t ∙ ap test f ∙ e in absurd cc)
    (λ (d : Contains ks k). filter_kept test ks k d t)
    (contains_cases x ks k c))

pub distinct_filter : (test : ℕ → Bool) (ks : List ℕ) → AreDistinct ks → AreDistinct (filter test ks)
distinct_filter test [] h = tt
distinct_filter test (x ∷ ks) h =
    filter_step AreDistinct test x ks
    (λ e. ((λ c. h.0 (filter_only test ks x c).0), distinct_filter test ks h.1))
    (λ e. distinct_filter test ks h.1)

pub ascending_filter : (test : ℕ → Bool) (ks : List ℕ) → IsAscending ks → IsAscending (filter test ks)
ascending_filter test [] h = tt
ascending_filter test (x ∷ ks) h =
    filter_step IsAscending test x ks
    (λ e. (
      all_from (λ y. x < y) (filter test ks) (λ k c. all_at (λ y. x < y) ks h.0 k (filter_only test ks k c).0),
      ascending_filter test ks h.1,
    ))
    (λ e. ascending_filter test ks h.1)

-- a sum whose terms are 0 where the test fails
pub sum_filter : (test : ℕ → Bool) (ks : List ℕ) (f : ℕ → ℤ) →
    ((k : ℕ) → Contains ks k → test k ≡ false → f k ≡ pos 0) →
    sum_over ks f ≡ sum_over (filter test ks) f
sum_filter test [] f z = refl
sum_filter test (x ∷ ks) f z =
    let h = sum_filter test ks f (λ k c. z k (Contains-later k x ks c)) in
    filter_step (λ (l : List ℕ). sum_over (x ∷ ks) f ≡ sum_over l f) test x ks
    (λ e. ap (λ (s : ℤ). f x +ℤ s) h)
    (λ e. let g = z x (Contains-first x ks) e in omega (arith, lin))

-- ---- n labels from a on
pub range_only : (a n k : ℕ) → Contains (range_with_len a n) k → (a ≤ k) × (k < a + n)
range_only a zero k c = absurd (Contains-nil k c)
range_only a (suc n) k c =
    ⊎_elim
    (λ (e : k ≡ a). (omega arith, omega arith))
    (λ (d : Contains (range_with_len (a + 1) n) k).
    let h = range_only (a + 1) n k d in let l = h.0 in let m = h.1 in (omega arith, omega arith))
    (contains_cases a (range_with_len (a + 1) n) k c)

pub range_has : (a n k : ℕ) → a ≤ k → k < a + n → Contains (range_with_len a n) k
range_has a zero k l m = absurd (omega arith)
range_has a (suc n) k l m =
    ⊎_elim
    (λ (e : k ≡ a). subst (λ (j : ℕ). Contains (j ∷ range_with_len (a + 1) n) k) e
    (Contains-first k (range_with_len (a + 1) n)))
    (λ (d : k ≡ a → ⊥). Contains-later k a (range_with_len (a + 1) n)
    (range_has (a + 1) n k (omega arith) (omega arith)))
    (cases_eq k a)

pub ascending_range : (a n : ℕ) → IsAscending (range_with_len a n)
ascending_range a zero = tt
ascending_range a (suc n) = (
  all_from (λ k. a < k) (range_with_len (a + 1) n)
      (λ k c. let l = (range_only (a + 1) n k c).0 in omega arith),
  ascending_range (a + 1) n,
)

-- ---- the labels of a list of numbers
pub map_only : (f : ℕ → ℕ) (js : List ℕ) (k : ℕ) → Contains (map f js) k →
    (j : ℕ) × Contains js j × (k ≡ f j)
map_only f [] k c = absurd (Contains-nil k c)
map_only f (x ∷ js) k c =
    by_cases (λ (i : ℕ). (j : ℕ) × Contains (x ∷ js) j × (i ≡ f j)) (f x) (map f js)
    (x, Contains-first x js, refl)
    (λ i d. let h = map_only f js i d in (h.0, Contains-later h.0 x js h.1, h.2))
    k c

pub map_has : (f : ℕ → ℕ) (js : List ℕ) (j : ℕ) → Contains js j → Contains (map f js) (f j)
map_has f [] j c = absurd (Contains-nil j c)
map_has f (x ∷ js) j c =
    by_cases (λ (i : ℕ). Contains (map f (x ∷ js)) (f i)) x js (Contains-first (f x) (map f js))
    (λ i d. Contains-later (f i) (f x) (map f js) (map_has f js i d)) j c

-- coordinate j is a label, from the first on
pub coordinate_is_label : (m first n j : ℕ) → first ≤ j → j < n → Contains (labels_of m first n) (coordinate_label j)
coordinate_is_label m first n j l h =
    Contains-append_right (range_with_len 1 m) (map coordinate_label (range_with_len first (n - first)))
    (coordinate_label j)
    (map_has coordinate_label (range_with_len first (n - first)) j (range_has first (n - first) j l (omega arith)))

-- ---- the test for members
pub member_only : (k : ℕ) (ks : List ℕ) → is_member k ks ≡ true → Contains ks k
member_only k [] e = absurd cc
member_only k (x ∷ ks) e =
    ⊎_elim
    (λ (f : (x == k) ≡ true). subst (λ (j : ℕ). Contains (j ∷ ks) k) (sym (eqb-true x k f)) (Contains-first k ks))
    (λ (f : is_member k ks ≡ true). Contains-later k x ks (member_only k ks f))
    (or_cases (x == k) (is_member k ks) e)

pub member_has : (k : ℕ) (ks : List ℕ) → Contains ks k → is_member k ks ≡ true
member_has k [] c = absurd (Contains-nil k c)
member_has k (x ∷ ks) c =
    ⊎_elim
    (λ (f : k ≡ x). or_left (x == k) (is_member k ks) (eq-eqb x k (sym f)))
    (λ (d : Contains ks k). or_right (x == k) (is_member k ks) (member_has k ks d))
    (contains_cases x ks k c)
