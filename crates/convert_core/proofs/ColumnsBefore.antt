-- The columns before a place, in the order in which they are gone through.
use Rattle.std.proofs.Common.{◌≡◌, ⊎_elim, ℕ, suc, ◌+◌, ◌<◌, List, [], ◌∷◌, ◌++◌, take, drop, length, get_or, add-one, drop-cons, take-append-drop, sym, ap, subst, ◌∙◌}
use Rattle.std.specs.List.{Contains}
use Rattle.std.proofs.Math.Seq.{take-suc}
use Rattle.std.proofs.lemmas.List.Elements.{Contains-append_left, Contains-get_or}
use Rattle.poly_model.specs.Keys.{IsAscending}
use Rattle.poly_model.specs.Labels.{constant_label}
use Rattle.linear_laws.specs.Distinct.{AreDistinct}
use Rattle.linear_laws.proofs.Members.{Contains-first, Contains-later, Contains-cons_cases}
use Rattle.dictionary_laws.proofs.KeyExchange.{ascending_distinct}
use Rattle.convert_core.proofs.RowLists.{apart}

-- ---- a label that stands there
module _ (ks : List ℕ) (i x : ℕ) (lt : i < length ks) (is : x ≡ get_or ks i x) where
  member : Contains ks x
  member = subst (Contains ks) (sym is) (Contains-get_or ks i x lt)

  -- it is not among those before it
  not_taken : IsAscending ks → Contains (take i ks) x → ⊥
  not_taken up c =
      apart (take i ks) (drop i ks)
      (subst AreDistinct (sym (take-append-drop i ks)) (ascending_distinct ks up)) x c
      (subst (λ l. Contains l x) (sym (drop-cons ks i x lt))
      (subst (λ y. Contains (y ∷ drop (suc i) ks) x) is (Contains-first x (drop (suc i) ks))))

  pub one_more : constant_label ∷ take (i + 1) ks ≡ (constant_label ∷ take i ks) ++ x ∷ []
  one_more =
      ap (λ l. constant_label ∷ l)
      (ap (λ n. take n ks) (add-one i) ∙ take-suc ks i x lt ∙ ap (λ y. take i ks ++ y ∷ []) (sym is))

module _ (key ks : List ℕ) (none : Contains key constant_label → ⊥) (same : ks ≡ key) (up : IsAscending ks)
    (i x : ℕ) (lt : i < length ks) (is : x ≡ get_or ks i x) where
  pub not_before : Contains (constant_label ∷ take i ks) x → ⊥
  not_before c =
      ⊎_elim
      (λ (e : constant_label ≡ x). none (subst (λ l. Contains l constant_label) same
      (subst (Contains ks) (sym e) (member ks i x lt is))))
      (λ (m : Contains (take i ks) x). not_taken ks i x lt is up m)
      (Contains-cons_cases x constant_label (take i ks) c)

pub here_in_all : (key ks : List ℕ) → ks ≡ key → (i x : ℕ) → i < length ks → x ≡ get_or ks i x →
    Contains (constant_label ∷ key) x
here_in_all key ks same i x lt is =
    Contains-later x constant_label key (subst (λ l. Contains l x) same (member ks i x lt is))

pub within_all : (key : List ℕ) (i x : ℕ) → Contains (constant_label ∷ take i key) x → Contains (constant_label ∷ key) x
within_all key i x c =
    ⊎_elim
    (λ (e : constant_label ≡ x). subst (Contains (constant_label ∷ key)) e (Contains-first constant_label key))
    (λ (m : Contains (take i key) x). Contains-later x constant_label key
    (subst (λ l. Contains l x) (take-append-drop i key) (Contains-append_left (take i key) (drop i key) x m)))
    (Contains-cons_cases x constant_label (take i key) c)
