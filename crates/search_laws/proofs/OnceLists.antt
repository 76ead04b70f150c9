-- Lists in which each member stands once: of keys it can be decided whether a key is a member; joined lists; of two
-- lists with the same members neither is longer.
use Rattle.std.proofs.Common.{◌≡◌, ◌≢◌, ◌⊎◌, inl, inr, ⊎_elim, ◌≤◌, ℕ, List, [], ◌∷◌, ◌++◌, length, refl, sym, subst, arith}
use Rattle.std.specs.List.{Contains}
use Rattle.std.proofs.lemmas.Bool.{cases_eq}
use Rattle.std.proofs.lemmas.List.Elements.{Contains-append_cases}
use Rattle.linear_laws.specs.Distinct.{AreDistinct}
use Rattle.linear_laws.proofs.Members.{same_first, same_others, Contains-nil, Contains-first, Contains-later, Contains-cons_cases}
use Rattle.search_laws.specs.Shares.{ListsAll}
use Rattle.tree_laws.proofs.Descents.{take_out}

-- ---- keys are equal or not
pub one_key_or_not : (a b : List ℕ) → (a ≡ b) ⊎ (a ≢ b)
one_key_or_not [] [] = inl refl
one_key_or_not [] (y ∷ b) = inr (λ e. Contains-nil y (subst (λ k. Contains k y) (sym e) (Contains-first y b)))
one_key_or_not (x ∷ a) [] = inr (λ e. Contains-nil x (subst (λ k. Contains k x) e (Contains-first x a)))
one_key_or_not (x ∷ a) (y ∷ b) = by (cases_eq x y) (one_key_or_not a b)
  where
    by : (x ≡ y) ⊎ (x ≢ y) → (a ≡ b) ⊎ (a ≢ b) → ((x ∷ a) ≡ (y ∷ b)) ⊎ ((x ∷ a) ≢ (y ∷ b))
    by (inl e) (inl f) = inl cc
    by (inl e) (inr n) = inr (λ g. n (same_others x y a b g))
    by (inr n) f = inr (λ g. n (same_first x y a b g))

pub one_of_or_not : (ks : List (List ℕ)) (k : List ℕ) → Contains ks k ⊎ (Contains ks k → ⊥)
one_of_or_not [] k = inr (Contains-nil k)
one_of_or_not (x ∷ ks) k = by (one_key_or_not x k) (one_of_or_not ks k)
  where
    by : (x ≡ k) ⊎ (x ≢ k) → Contains ks k ⊎ (Contains ks k → ⊥) → Contains (x ∷ ks) k ⊎ (Contains (x ∷ ks) k → ⊥)
    by (inl e) f = inl (subst (λ y. Contains (x ∷ ks) y) e (Contains-first x ks))
    by (inr n) (inl c) = inl (Contains-later k x ks c)
    by (inr n) (inr m) = inr (λ c. ⊎_elim n m (Contains-cons_cases k x ks c))

module _ {X : Type 0} where
  -- what holds of the first and of the others holds of each
  pub at_first_or_later : (P : X → Type 0) (x : X) (xs : List X) → P x → ((y : X) → Contains xs y → P y) →
      (y : X) → Contains (x ∷ xs) y → P y
  at_first_or_later P x xs h k y c =
      ⊎_elim (λ (e : x ≡ y). subst P e h) (λ (d : Contains xs y). k y d) (Contains-cons_cases y x xs c)

  pub at_either : (P : X → Type 0) (xs ys : List X) → ((y : X) → Contains xs y → P y) →
      ((y : X) → Contains ys y → P y) → (y : X) → Contains (xs ++ ys) y → P y
  at_either P xs ys h k y c = ⊎_elim (h y) (k y) (Contains-append_cases xs ys y c)

  -- a list whose members stand once and in another is not longer
  pub no_longer : (xs ys : List X) → AreDistinct xs → ((x : X) → Contains xs x → Contains ys x) → length xs ≤ length ys
  no_longer [] ys a h = omega arith
  no_longer (x ∷ xs) ys a h =
      let t = take_out ys x (h x (Contains-first x xs)) in
      let l = no_longer xs t.rest a.1
      (λ y c. t.others y (h y (Contains-later y x xs c)) (λ e. a.0 (subst (λ z. Contains xs z) e c))) in
      omega (arith, l, t.shorter)

  pub one_count : (xs ys : List X) → AreDistinct xs → AreDistinct ys → ((x : X) → Contains xs x → Contains ys x) →
      ((x : X) → Contains ys x → Contains xs x) → length xs ≡ length ys
  one_count xs ys a b h k = omega (arith, no_longer xs ys a h, no_longer ys xs b k)

-- a list of all that have one property is one of all that have the other, where the two are the same
pub same_lists : {X : Type 0} (P Q : X → Type 0) → ((x : X) → P x → Q x) → ((x : X) → Q x → P x) → (xs : List X) →
    ListsAll P xs → ListsAll Q xs
same_lists P Q there back xs l = record {
  once = l.once;
  only = λ x c. there x (l.only x c);
  each = λ x q. l.each x (back x q);
}
