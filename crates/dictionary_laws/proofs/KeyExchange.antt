-- A label put into a key from which another was taken: the labels of the result.
use Rattle.std.proofs.Common.{◌≡◌, ◌≢◌, ℕ, zero, suc, ◌<◌, ◌⊎◌, Bool, true, false, cond, List, [], ◌∷◌, length, get_or, refl, sym, ap, subst, inl, inr, ⊎_elim, arith, add-one}
use Rattle.std.specs.Prelude.{nat_lt, ◌==◌}
use Rattle.std.specs.List.{Contains}
use Rattle.std.proofs.lemmas.Bool.{eqb-true, eqb-false}
use Rattle.std.specs.List.{remove}
use Rattle.std.proofs.lemmas.List.Edits.{length-remove}
use Rattle.std.proofs.lemmas.List.Elements.{Contains-get_or}
use Rattle.poly_model.specs.Keys.{IsAscending, IsKey, with_label}
use Rattle.poly_model.proofs.KeyLemmas.{key_with, key_without}
use Rattle.linear_laws.specs.Distinct.{AreDistinct}
use Rattle.dictionary_laws.specs.Laws.{IsExchangedKey}
use Rattle.dictionary_laws.specs.Keys.{Exchanges}
use Rattle.linear_laws.proofs.Members.{Contains-first, Contains-later, Contains-nil, all_at}
use Rattle.dictionary_laws.proofs.Members.{contains_cases, by_cases, without, without_only, without_kept, without_step, without_none, distinct_without}

pub ascending_distinct : (ks : List ℕ) → IsAscending ks → AreDistinct ks
ascending_distinct [] h = tt
ascending_distinct (x ∷ ks) h =
    (λ c. let l : x < x = all_at (λ y. x < y) ks h.0 x c in omega arith, ascending_distinct ks h.1)

-- the three cases of an insertion
with_step : (P : List ℕ → Type 0) (label x : ℕ) (xs : List ℕ) →
    P (label ∷ x ∷ xs) → (label ≡ x → P (x ∷ xs)) → (label ≢ x → P (x ∷ with_label label xs)) →
    P (with_label label (x ∷ xs))
with_step P label x xs before same behind = by (nat_lt label x) (label == x) refl
  where
    by : (t e : Bool) → (label == x) ≡ e →
        P (cond t (label ∷ x ∷ xs) (cond e (x ∷ xs) (x ∷ with_label label xs)))
    by true e m = before
    by false true m = same (eqb-true label x m)
    by false false m = behind (eqb-false label x m)

with_there : (label : ℕ) (ks : List ℕ) → Contains (with_label label ks) label
with_there label [] = Contains-first label []
with_there label (x ∷ ks) =
    with_step (λ (l : List ℕ). Contains l label) label x ks
    (Contains-first label (x ∷ ks))
    (λ e. subst (λ (j : ℕ). Contains (j ∷ ks) label) e (Contains-first label ks))
    (λ n. Contains-later label x (with_label label ks) (with_there label ks))

with_kept : (label : ℕ) (ks : List ℕ) (k : ℕ) → Contains ks k → Contains (with_label label ks) k
with_kept label [] k c = absurd (Contains-nil k c)
with_kept label (x ∷ ks) k c =
    with_step (λ (l : List ℕ). Contains l k) label x ks
    (Contains-later k label (x ∷ ks) c)
    (λ e. c)
    (λ n. by_cases (Contains (x ∷ with_label label ks)) x ks (Contains-first x (with_label label ks))
    (λ j i. Contains-later j x (with_label label ks) (with_kept label ks j i)) k c)

with_only : (label : ℕ) (ks : List ℕ) (k : ℕ) → Contains (with_label label ks) k →
    (k ≡ label) ⊎ Contains ks k
with_only label [] k c = contains_cases label [] k c
with_only label (x ∷ ks) k c =
    with_step (λ (l : List ℕ). Contains l k → (k ≡ label) ⊎ Contains (x ∷ ks) k) label x ks
    (λ d. contains_cases label (x ∷ ks) k d)
    (λ e d. inr d)
    (λ n d. by_cases (λ j. (j ≡ label) ⊎ Contains (x ∷ ks) j) x (with_label label ks)
    (inr (Contains-first x ks))
    (λ j i. ⊎_elim (λ (e : j ≡ label). inl e) (λ (h : Contains ks j). inr (Contains-later j x ks h))
    (with_only label ks j i)) k d)
    c

with_distinct : (label : ℕ) (ks : List ℕ) → AreDistinct ks → (Contains ks label → ⊥) →
    AreDistinct (with_label label ks)
with_distinct label [] h n = (Contains-nil label, tt)
with_distinct label (x ∷ ks) h n =
    with_step AreDistinct label x ks
    (n, h)
    (λ e. h)
    (λ m. (
      λ c. ⊎_elim (λ (e : x ≡ label). m (sym e)) h.0 (with_only label ks x c),
      with_distinct label ks h.1 (λ c. n (Contains-later label x ks c)),
    ))

pub with_exchanges : (key : List ℕ) (r s : ℕ) → AreDistinct key → (Contains key r → ⊥) →
    Exchanges key (with_label r (without s key)) r s
with_exchanges key r s h n = record {
  distinct = with_distinct r (without s key) (distinct_without s key h)
      (λ c. n (without_only s key r c).0);
  entering = with_there r (without s key);
  kept = λ k c m. with_kept r (without s key) k (without_kept s key k c m);
  only = λ k c. ⊎_elim (λ (e : k ≡ r). inl e)
      (λ (d : Contains (without s key) k). inr (without_only s key k d))
      (with_only r (without s key) k c);
}

-- without the label at a place
remove_is_without : (i : ℕ) (ks : List ℕ) → AreDistinct ks → i < length ks →
    remove ks i ≡ without (get_or ks i 0) ks
remove_is_without i [] h l = absurd (omega arith)
remove_is_without zero (x ∷ ks) h l =
    without_step (λ (m : List ℕ). ks ≡ m) x x ks (λ e. sym (without_none x ks h.0))
    (λ n. absurd (n refl))
remove_is_without (suc i) (x ∷ ks) h l =
    without_step (λ (m : List ℕ). x ∷ remove ks i ≡ m) (get_or ks i 0) x ks
    (λ e. absurd
    (h.0 (subst (λ (j : ℕ). Contains ks j) (sym e) (Contains-get_or ks i 0 (omega arith)))))
    (λ n. ap (λ m. x ∷ m) (remove_is_without i ks h.1 (omega arith)))

pub exchanged_key : (key : List ℕ) (r i : ℕ) → IsKey key → (Contains key r → ⊥) → i < length key →
    IsExchangedKey key (with_label r (remove key i)) r (get_or key i 0)
exchanged_key key r i h n l = record {
  exchanges =
      subst (λ (rest : List ℕ). Exchanges key (with_label r rest) r (get_or key i 0))
      (sym (remove_is_without i key (ascending_distinct key h.ascending) l))
      (with_exchanges key r (get_or key i 0) (ascending_distinct key h.ascending) n);
  is_key = key_with r (remove key i) (rw add-one at (key_without i key h))
      (let m = length-remove key i l in omega (arith, h.room));
}
