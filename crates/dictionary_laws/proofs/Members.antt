-- Members of a list of labels, lists whose labels stand once, and sums over them.
use Rattle.std.proofs.Common.{◌≡◌, ◌≢◌, ℕ, ◌⊎◌, Bool, true, false, cond, List, [], ◌∷◌, ℤ, pos, ◌+ℤ◌, ◌*ℤ◌, refl, sym, ap, subst, ◌∙◌, inl, inr, ⊎_elim, arith, zero, suc, ◌<◌, ◌≤◌, length, get_or}
use Rattle.std.specs.Prelude.{◌==◌, if◌then◌else◌}
use Rattle.std.specs.List.{AllByRecursion, Contains}
use Rattle.std.proofs.lemmas.Bool.{eqb-true, eqb-false, cases_eq}
use Rattle.std.proofs.lemmas.Int.{ints}
use Rattle.std.proofs.lemmas.List.Elements.{Contains-get_or}
use Rattle.poly_num.proofs.Ring.{expand, lin, mul_zero}
use Rattle.poly_model.specs.Dictionaries.{sum_over}
use Rattle.poly_model.specs.Keys.{IsAscending}
use Rattle.linear_laws.specs.Distinct.{AreDistinct}
use Rattle.linear_laws.proofs.Members.{Contains-nil, Contains-first, Contains-later, Contains-cons_cases, all_at}
use Rattle.dictionary_laws.specs.Keys.{HaveSameLabels}

pub contains_cases : (x : ℕ) (ks : List ℕ) (k : ℕ) → Contains (x ∷ ks) k → (k ≡ x) ⊎ Contains ks k
contains_cases x ks k c =
    ⊎_elim (λ (e : x ≡ k). inl (sym e)) (λ (d : Contains ks k). inr d) (Contains-cons_cases k x ks c)

pub contains_other : (x : ℕ) (ks : List ℕ) (k : ℕ) → Contains (x ∷ ks) k → k ≢ x → Contains ks k
contains_other x ks k c n = ⊎_elim (λ (e : k ≡ x). absurd (n e)) (λ (d : Contains ks k). d)
    (contains_cases x ks k c)

-- a fact of each label of a list, where it holds at the first and at all others
pub by_cases : (P : ℕ → Type 0) (x : ℕ) (ks : List ℕ) → P x → ((k : ℕ) → Contains ks k → P k) →
    (k : ℕ) → Contains (x ∷ ks) k → P k
by_cases P x ks p rest k h =
    ⊎_elim (λ (e : k ≡ x). subst P (sym e) p) (λ (c : Contains ks k). rest k c)
    (contains_cases x ks k h)

pub all_from : (P : ℕ → Type 0) (ks : List ℕ) → ((k : ℕ) → Contains ks k → P k) → AllByRecursion P ks
all_from P [] f = tt
all_from P (x ∷ ks) f = (f x (Contains-first x ks), all_from P ks (λ k c. f k (Contains-later k x ks c)))

pub contains_or : (ks : List ℕ) (k : ℕ) → Contains ks k ⊎ (Contains ks k → ⊥)
contains_or [] k = inr (Contains-nil k)
contains_or (x ∷ ks) k =
    ⊎_elim
    (λ (e : k ≡ x). inl (subst (λ (j : ℕ). Contains (j ∷ ks) k) e (Contains-first k ks)))
    (λ (n : k ≡ x → ⊥).
    ⊎_elim
    (λ (c : Contains ks k). inl (Contains-later k x ks c))
    (λ (m : Contains ks k → ⊥). inr (λ c. ⊎_elim n m (contains_cases x ks k c)))
    (contains_or ks k))
    (cases_eq k x)

-- one label out
abbrev pub without : ℕ → List ℕ → List ℕ
without s [] = []
without s (k ∷ ks) = if k == s then without s ks else k ∷ without s ks

pub without_step : (P : List ℕ → Type 0) (s x : ℕ) (ks : List ℕ) →
    (x ≡ s → P (without s ks)) → (x ≢ s → P (x ∷ without s ks)) → P (without s (x ∷ ks))
without_step P s x ks f g = by (x == s) refl
  where
    by : (b : Bool) → (x == s) ≡ b → P (cond b (without s ks) (x ∷ without s ks))
    by true e = f (eqb-true x s e)
    by false e = g (eqb-false x s e)

pub without_only : (s : ℕ) (ks : List ℕ) (k : ℕ) → Contains (without s ks) k → Contains ks k × (k ≢ s)
without_only s [] k c = absurd (Contains-nil k c)
without_only s (x ∷ ks) k c =
    without_step (λ (l : List ℕ). Contains l k → Contains (x ∷ ks) k × (k ≢ s)) s x ks
    (λ e d. let h = without_only s ks k d in (Contains-later k x ks h.0, h.1))
    (λ n d. by_cases (λ (j : ℕ). Contains (x ∷ ks) j × (j ≢ s)) x (without s ks)
    (Contains-first x ks, n)
    (λ j i. let h = without_only s ks j i in (Contains-later j x ks h.0, h.1)) k d)
    c

pub without_kept : (s : ℕ) (ks : List ℕ) (k : ℕ) → Contains ks k → k ≢ s → Contains (without s ks) k
without_kept s [] k c n = absurd (Contains-nil k c)
without_kept s (x ∷ ks) k c n =
    without_step (λ (l : List ℕ). Contains l k) s x ks
    (λ e. ⊎_elim (λ (f : k ≡ x). absurd (n (f ∙ e))) (λ (d : Contains ks k). without_kept s ks k d n)
    (contains_cases x ks k c))
    (λ m. ⊎_elim
    (λ (f : k ≡ x). subst (λ (j : ℕ). Contains (j ∷ without s ks) k) f (Contains-first k (without s ks)))
    (λ (d : Contains ks k). Contains-later k x (without s ks) (without_kept s ks k d n))
    (contains_cases x ks k c))

pub distinct_without : (s : ℕ) (ks : List ℕ) → AreDistinct ks → AreDistinct (without s ks)
distinct_without s [] h = tt
distinct_without s (x ∷ ks) h =
    without_step AreDistinct s x ks
    (λ e. distinct_without s ks h.1)
    (λ n. ((λ c. h.0 (without_only s ks x c).0), distinct_without s ks h.1))

-- without a label that does not stand there
pub without_none : (s : ℕ) (ks : List ℕ) → (Contains ks s → ⊥) → without s ks ≡ ks
without_none s [] n = refl
without_none s (x ∷ ks) n =
    without_step (λ (l : List ℕ). l ≡ x ∷ ks) s x ks
    (λ e. absurd (n (subst (λ (j : ℕ). Contains (x ∷ ks) j) e (Contains-first x ks))))
    (λ m. ap (λ l. x ∷ l) (without_none s ks (λ c. n (Contains-later s x ks c))))

-- sums
pub sum_same : (ks : List ℕ) (f g : ℕ → ℤ) → ((k : ℕ) → Contains ks k → f k ≡ g k) →
    sum_over ks f ≡ sum_over ks g
sum_same [] f g h = refl
sum_same (x ∷ ks) f g h =
    let a = h x (Contains-first x ks) in
    let b = sum_same ks f g (λ k c. h k (Contains-later k x ks c)) in
    cc

pub sum_zero : (ks : List ℕ) (f : ℕ → ℤ) → ((k : ℕ) → Contains ks k → f k ≡ pos 0) →
    sum_over ks f ≡ pos 0
sum_zero [] f h = refl
sum_zero (x ∷ ks) f h =
    let a = h x (Contains-first x ks) in
    let b = sum_zero ks f (λ k c. h k (Contains-later k x ks c)) in
    omega (arith, lin)

pub sum-scale : (p : ℤ) (ks : List ℕ) (f : ℕ → ℤ) → sum_over ks (λ k. p *ℤ f k) ≡ p *ℤ sum_over ks f
sum-scale p [] f = sym (mul_zero p)
sum-scale p (x ∷ ks) f = let h = sum-scale p ks f in simp expand (omega (arith, lin))

pub sum-add : (ks : List ℕ) (f g : ℕ → ℤ) →
    sum_over ks (λ k. f k +ℤ g k) ≡ sum_over ks f +ℤ sum_over ks g
sum-add [] f g = refl
sum-add (x ∷ ks) f g = let h = sum-add ks f g in omega (arith, lin)

-- one label's term, and those of the others
pub sum_without : (s : ℕ) (ks : List ℕ) (f : ℕ → ℤ) → AreDistinct ks → Contains ks s →
    sum_over ks f ≡ f s +ℤ sum_over (without s ks) f
sum_without s [] f h c = absurd (Contains-nil s c)
sum_without s (x ∷ ks) f h c =
    without_step (λ (l : List ℕ). sum_over (x ∷ ks) f ≡ f s +ℤ sum_over l f) s x ks
    (λ e. let n = subst (λ (j : ℕ). Contains ks j → ⊥) e h.0 in
    let g = ap (λ l. sum_over l f) (without_none s ks n) in let k = ap f e in omega (arith, lin))
    (λ n. ⊎_elim
    (λ (e : s ≡ x). absurd (n (sym e)))
    (λ (d : Contains ks s). let g = sum_without s ks f h.1 d in omega (arith, lin))
    (contains_cases x ks s c))

pub sum_single : (s : ℕ) (ks : List ℕ) (f : ℕ → ℤ) → AreDistinct ks → Contains ks s →
    ((k : ℕ) → Contains ks k → k ≢ s → f k ≡ pos 0) → sum_over ks f ≡ f s
sum_single s ks f h c z =
    let a = sum_without s ks f h c in
    let b = sum_zero (without s ks) f (λ k d. let m = without_only s ks k d in z k m.0 m.1) in
    omega (arith, lin)

-- a sum goes by the labels, not by their order
pub sum_members : (ks ls : List ℕ) (f : ℕ → ℤ) → AreDistinct ks → AreDistinct ls →
    HaveSameLabels ks ls →
    sum_over ks f ≡ sum_over ls f
sum_members [] [] f h g m = refl
sum_members [] (y ∷ ls) f h g m = absurd (Contains-nil y (m.back y (Contains-first y ls)))
sum_members (x ∷ ks) ls f h g m =
    let a = sum_without x ls f g (m.there x (Contains-first x ks)) in
    let b = sum_members ks (without x ls) f h.1 (distinct_without x ls g) (record {
      there = λ k c. without_kept x ls k (m.there k (Contains-later k x ks c))
          (λ e. h.0 (subst (λ (j : ℕ). Contains ks j) e c));
      back = λ k c. let d = without_only x ls k c in
          ⊎_elim (λ (e : k ≡ x). absurd (d.1 e)) (λ (i : Contains ks k). i)
          (contains_cases x ks k (m.back k d.0));
    }) in
    omega (arith, lin)

-- ---- how many there are
pub count_by_ones : (ks : List ℕ) → sum_over ks (λ _. pos 1) ≡ pos (length ks)
count_by_ones [] = refl
count_by_ones (k ∷ ks) = let e = count_by_ones ks in omega (arith, ints)

-- labels that differ and are below n are at most n
pub few_below : (n : ℕ) (ks : List ℕ) → AreDistinct ks → ((k : ℕ) → Contains ks k → k < n) → length ks ≤ n
few_below zero [] d below = omega arith
few_below zero (k ∷ ks) d below = let l = below k (Contains-first k ks) in absurd (omega (arith, l))
few_below (suc n) ks d below =
    ⊎_elim
    (λ (c : Contains ks n).
    let rest = few_below n (without n ks) (distinct_without n ks d)
    (λ k m. let h = without_only n ks k m in let l = below k h.0 in let other = h.1 in omega (arith, l, other)) in
    let all = sum_without n ks (λ _. pos 1) d c in
    let f = count_by_ones ks in
    let g = count_by_ones (without n ks) in
    omega (arith, ints, rest, all, f, g))
    (λ (none : Contains ks n → ⊥).
    let rest = few_below n ks d
    (λ k m. let l = below k m in let other : k ≢ n = λ e. none (subst (λ (j : ℕ). Contains ks j) e m) in
    omega (arith, l, other)) in
    omega (arith, rest))
    (contains_or ks n)

-- ---- ascending lists
-- a later place has no lesser number
pub ascending_places : (xs : List ℕ) → IsAscending xs → (i j : ℕ) → i ≤ j → j < length xs → get_or xs i 0 ≤ get_or xs j 0
ascending_places [] a i j l m = absurd (omega arith)
ascending_places (x ∷ xs) a zero zero l m = omega arith
ascending_places (x ∷ xs) a zero (suc j) l m =
    let above = all_at (λ y. x < y) xs a.0 (get_or xs j 0) (Contains-get_or xs j 0 (omega arith)) in omega arith
ascending_places (x ∷ xs) a (suc i) zero l m = absurd (omega arith)
ascending_places (x ∷ xs) a (suc i) (suc j) l m = ascending_places xs a.1 i j (omega arith) (omega arith)
