-- Lists of what was met, joined; and of the children of a key and their labels.
use Rattle.std.proofs.Common.{◌≡◌, ⊎_elim, ℕ, List, [], ◌∷◌, ◌++◌, refl, ap, subst}
use Rattle.std.specs.List.{Contains}
use Rattle.linear_laws.proofs.Members.{Contains-nil, Contains-first, Contains-later, Contains-cons_cases}
use Rattle.work_core.specs.Orders.{Met, visited, given_back, keys_visited, keys_given_back, AreAt}

pub visited-append : (a b : List Met) → keys_visited (a ++ b) ≡ keys_visited a ++ keys_visited b
visited-append [] b = refl
visited-append (visited key ∷ a) b = ap (λ keys. key ∷ keys) (visited-append a b)
visited-append (given_back key ∷ a) b = visited-append a b

pub given_back-append : (a b : List Met) → keys_given_back (a ++ b) ≡ keys_given_back a ++ keys_given_back b
given_back-append [] b = refl
given_back-append (visited key ∷ a) b = given_back-append a b
given_back-append (given_back key ∷ a) b = ap (λ keys. key ∷ keys) (given_back-append a b)

-- ---- children
module _ (At : List ℕ → ℕ → List ℕ → Type 0) (key : List ℕ) where
  pub child_of_label : (labels : List ℕ) (children : List (List ℕ)) → AreAt At key labels children → (s : ℕ) →
      Contains labels s → (child : List ℕ) × Contains children child × At key s child
  child_of_label [] [] a s m = absurd (Contains-nil s m)
  child_of_label [] (d ∷ children) a s m = absurd a
  child_of_label (r ∷ labels) [] a s m = absurd a
  child_of_label (r ∷ labels) (d ∷ children) (h, a) s m =
      ⊎_elim
      (λ (e : r ≡ s). (d, Contains-first d children, subst (λ l. At key l d) e h))
      (λ (n : Contains labels s). let w = child_of_label labels children a s n in
      (w.0, Contains-later w.0 d children w.1, w.2))
      (Contains-cons_cases s r labels m)

  pub label_of_child : (labels : List ℕ) (children : List (List ℕ)) → AreAt At key labels children → (child : List ℕ) →
      Contains children child → (s : ℕ) × Contains labels s × At key s child
  label_of_child [] [] a child m = absurd (Contains-nil child m)
  label_of_child [] (d ∷ children) a child m = absurd a
  label_of_child (s ∷ labels) [] a child m = absurd a
  label_of_child (s ∷ labels) (d ∷ children) (h, a) child m =
      ⊎_elim
      (λ (e : d ≡ child). (s, Contains-first s labels, subst (λ k. At key s k) e h))
      (λ (n : Contains children child). let w = label_of_child labels children a child n in
      (w.0, Contains-later w.0 s labels w.1, w.2))
      (Contains-cons_cases child d children m)
