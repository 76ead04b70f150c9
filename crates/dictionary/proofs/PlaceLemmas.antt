-- Places of labels in lists of labels, each once, and a label put in the place of another.
use Rattle.std.proofs.Common.{◌≡◌, ◌≢◌, ◌⊎◌, ℕ, zero, suc, ◌<◌, cond, List, [], ◌∷◌, ◌++◌, length, get_or, set, arith, refl, sym, ap, subst, ◌∙◌, inl, inr, ⊎_elim}
use Rattle.std.specs.List.{Contains}
use Rattle.std.proofs.lemmas.Bool.{eq-eqb, ne_eqb, cases_eq}
use Rattle.std.proofs.lemmas.List.Elements.{Contains-get_or}
use Rattle.linear_laws.specs.Distinct.{AreDistinct}
use Rattle.linear_laws.proofs.Members.{Contains-first, Contains-later, Contains-nil}
use Rattle.dictionary_laws.specs.Keys.{place_in, HaveSameLabels, Exchanges}
use Rattle.dictionary_laws.proofs.Members.{contains_cases}

place_here : (x : ℕ) (ks : List ℕ) (k : ℕ) → x ≡ k → place_in (x ∷ ks) k ≡ zero
place_here x ks k e = ap (λ b. cond b zero (suc (place_in ks k))) (eq-eqb x k e)

place_later : (x : ℕ) (ks : List ℕ) (k : ℕ) → x ≢ k → place_in (x ∷ ks) k ≡ suc (place_in ks k)
place_later x ks k n = ap (λ b. cond b zero (suc (place_in ks k))) (ne_eqb x k n)

later_member : (x : ℕ) (ks : List ℕ) (k : ℕ) → x ≢ k → Contains (x ∷ ks) k → Contains ks k
later_member x ks k n c =
    ⊎_elim (λ (e : k ≡ x). absurd (n (sym e))) (λ (h : Contains ks k). h) (contains_cases x ks k c)

-- a member stands at its place
pub place_within : (ks : List ℕ) (k : ℕ) → Contains ks k → place_in ks k < length ks
place_within [] k c = absurd (Contains-nil k c)
place_within (x ∷ ks) k c =
    ⊎_elim
    (λ (e : x ≡ k). rw (place_here x ks k e) (omega arith))
    (λ (n : x ≢ k). rw (place_later x ks k n) (let l = place_within ks k (later_member x ks k n c) in omega arith))
    (cases_eq x k)

pub at_place : (ks : List ℕ) (k z : ℕ) → Contains ks k → get_or ks (place_in ks k) z ≡ k
at_place [] k z c = absurd (Contains-nil k c)
at_place (x ∷ ks) k z c =
    ⊎_elim
    (λ (e : x ≡ k). rw (place_here x ks k e) e)
    (λ (n : x ≢ k). rw (place_later x ks k n) (at_place ks k z (later_member x ks k n c)))
    (cases_eq x k)

-- two members at one place are one
pub one_at_place : (ks : List ℕ) (k l : ℕ) → Contains ks k → Contains ks l → place_in ks k ≡ place_in ks l → k ≡ l
one_at_place ks k l c d e =
    sym (at_place ks k 0 c) ∙ ap (λ i. get_or ks i 0) e ∙ at_place ks l 0 d

-- what stands at a place has that place
pub place_at : (ks : List ℕ) (i z : ℕ) → AreDistinct ks → i < length ks → place_in ks (get_or ks i z) ≡ i
place_at [] i z d l = absurd (omega arith)
place_at (x ∷ ks) zero z d l = place_here x ks x refl
place_at (x ∷ ks) (suc i) z d l =
    let lt : i < length ks = omega arith in
    place_later x ks (get_or ks i z)
    (λ e. d.0 (subst (λ (k : ℕ). Contains ks k) (sym e) (Contains-get_or ks i z lt)))
    ∙ ap suc (place_at ks i z d.1 lt)

-- a member of the first of two lists has its place there, and one more label behind has the place of the end
pub place_front : (ks ls : List ℕ) (k : ℕ) → Contains ks k → place_in (ks ++ ls) k ≡ place_in ks k
place_front [] ls k c = absurd (Contains-nil k c)
place_front (x ∷ ks) ls k c =
    ⊎_elim
    (λ (e : x ≡ k). place_here x (ks ++ ls) k e ∙ sym (place_here x ks k e))
    (λ (n : x ≢ k).
    place_later x (ks ++ ls) k n
    ∙ ap suc (place_front ks ls k (later_member x ks k n c))
    ∙ sym (place_later x ks k n))
    (cases_eq x k)

pub place_behind : (ks : List ℕ) (k : ℕ) → (Contains ks k → ⊥) → place_in (ks ++ k ∷ []) k ≡ length ks
place_behind [] k n = place_here k [] k refl
place_behind (x ∷ ks) k n =
    place_later x (ks ++ k ∷ []) k (λ e. n (subst (λ (i : ℕ). Contains (x ∷ ks) i) e (Contains-first x ks)))
    ∙ ap suc (place_behind ks k (λ c. n (Contains-later k x ks c)))

-- r is put in the place of s
module _ (r s : ℕ) where
  pub set_members : (ks : List ℕ) → AreDistinct ks → Contains ks s → (k : ℕ) →
      Contains (set ks (place_in ks s) r) k → (k ≡ r) ⊎ (Contains ks k × (k ≢ s))
  set_members [] d c k h = absurd (Contains-nil s c)
  set_members (x ∷ ks) d c k h =
      ⊎_elim
      (λ (e : x ≡ s).
      let g : Contains (r ∷ ks) k =
      subst (λ (i : ℕ). Contains (set (x ∷ ks) i r) k) (place_here x ks s e) h in
      ⊎_elim (λ (f : k ≡ r). inl f)
      (λ (m : Contains ks k). inr (
        Contains-later k x ks m,
        λ q. d.0 (subst (λ (i : ℕ). Contains ks i) (q ∙ sym e) m),
      ))
      (contains_cases r ks k g))
      (λ (n : x ≢ s).
      let g : Contains (x ∷ set ks (place_in ks s) r) k =
      subst (λ (i : ℕ). Contains (set (x ∷ ks) i r) k) (place_later x ks s n) h in
      ⊎_elim
      (λ (f : k ≡ x). inr (subst (λ (i : ℕ). Contains (x ∷ ks) i) (sym f) (Contains-first x ks), λ q. n (sym f ∙ q)))
      (λ (m : Contains (set ks (place_in ks s) r) k).
      ⊎_elim (λ (f : k ≡ r). inl f)
      (λ (p : Contains ks k × (k ≢ s)). inr (Contains-later k x ks p.0, p.1))
      (set_members ks d.1 (later_member x ks s n c) k m))
      (contains_cases x (set ks (place_in ks s) r) k g))
      (cases_eq x s)

  pub set_entering : (ks : List ℕ) → Contains ks s → Contains (set ks (place_in ks s) r) r
  set_entering [] c = absurd (Contains-nil s c)
  set_entering (x ∷ ks) c =
      ⊎_elim
      (λ (e : x ≡ s). rw (place_here x ks s e) (Contains-first r ks))
      (λ (n : x ≢ s). rw (place_later x ks s n)
      (Contains-later r x (set ks (place_in ks s) r) (set_entering ks (later_member x ks s n c))))
      (cases_eq x s)

  pub set_kept : (ks : List ℕ) → Contains ks s → (k : ℕ) → Contains ks k → k ≢ s →
      Contains (set ks (place_in ks s) r) k
  set_kept [] c k m n = absurd (Contains-nil k m)
  set_kept (x ∷ ks) c k m n =
      ⊎_elim
      (λ (e : x ≡ s). rw (place_here x ks s e)
      (Contains-later k r ks (later_member x ks k (λ f. n (sym f ∙ e)) m)))
      (λ (q : x ≢ s). rw (place_later x ks s q)
      (⊎_elim
      (λ (f : k ≡ x). rw f (Contains-first x (set ks (place_in ks s) r)))
      (λ (h : Contains ks k). Contains-later k x (set ks (place_in ks s) r)
      (set_kept ks (later_member x ks s q c) k h n))
      (contains_cases x ks k m)))
      (cases_eq x s)

  pub set_distinct : (ks : List ℕ) → AreDistinct ks → Contains ks s → (Contains ks r → ⊥) →
      AreDistinct (set ks (place_in ks s) r)
  set_distinct [] d c n = tt
  set_distinct (x ∷ ks) d c n =
      ⊎_elim
      (λ (e : x ≡ s). rw (place_here x ks s e) (λ h. n (Contains-later r x ks h), d.1))
      (λ (q : x ≢ s). rw (place_later x ks s q) (
        λ h. ⊎_elim
            (λ (f : x ≡ r). n (subst (λ (i : ℕ). Contains (x ∷ ks) i) f (Contains-first x ks)))
            (λ (p : Contains ks x × (x ≢ s)). d.0 p.0)
            (set_members ks d.1 (later_member x ks s q c) x h),
        set_distinct ks d.1 (later_member x ks s q c) (λ h. n (Contains-later r x ks h)),
      ))
      (cases_eq x s)

  pub place_entering : (ks : List ℕ) → Contains ks s → (Contains ks r → ⊥) →
      place_in (set ks (place_in ks s) r) r ≡ place_in ks s
  place_entering [] c n = absurd (Contains-nil s c)
  place_entering (x ∷ ks) c n =
      ⊎_elim
      (λ (e : x ≡ s). rw (place_here x ks s e) (place_here r ks r refl))
      (λ (q : x ≢ s). rw (place_later x ks s q)
      (place_later x (set ks (place_in ks s) r) r
      (λ f. n (subst (λ (i : ℕ). Contains (x ∷ ks) i) f (Contains-first x ks)))
      ∙ ap suc (place_entering ks (later_member x ks s q c) (λ h. n (Contains-later r x ks h)))))
      (cases_eq x s)

  pub place_staying : (ks : List ℕ) → Contains ks s → (k : ℕ) → k ≢ r → k ≢ s →
      place_in (set ks (place_in ks s) r) k ≡ place_in ks k
  place_staying [] c k n q = refl
  place_staying (x ∷ ks) c k n q =
      ⊎_elim
      (λ (e : x ≡ s).
      ap (λ i. place_in (set (x ∷ ks) i r) k) (place_here x ks s e)
      ∙ place_later r ks k (λ f. n (sym f))
      ∙ sym (place_later x ks k (λ f. q (sym f ∙ e))))
      (λ (m : x ≢ s).
      ap (λ i. place_in (set (x ∷ ks) i r) k) (place_later x ks s m)
      ∙ ⊎_elim
      (λ (f : x ≡ k). place_here x (set ks (place_in ks s) r) k f ∙ sym (place_here x ks k f))
      (λ (g : x ≢ k). place_later x (set ks (place_in ks s) r) k g
      ∙ ap suc (place_staying ks (later_member x ks s m c) k n q)
      ∙ sym (place_later x ks k g))
      (cases_eq x k))
      (cases_eq x s)

  -- lists with the same labels have them still where r takes the place of s in both
  pub exchanged_same : (key new columns : List ℕ) → Exchanges key new r s → HaveSameLabels key columns →
      AreDistinct columns → Contains columns s → HaveSameLabels new (set columns (place_in columns s) r)
  exchanged_same key new columns x same d c = record {
    there = λ k h.
        ⊎_elim
        (λ (e : k ≡ r). rw e (set_entering columns c))
        (λ (p : Contains key k × (k ≢ s)). set_kept columns c k (same.there k p.0) p.1)
        (x.only k h);
    back = λ k h.
        ⊎_elim
        (λ (e : k ≡ r). rw e (x.entering))
        (λ (p : Contains columns k × (k ≢ s)). x.kept k (same.back k p.0) p.1)
        (set_members columns d c k h);
  }
