-- How many keys a run visits, and that it gives a key back only where it has visited all that it may or the key is deep.
use Rattle.std.proofs.Common.{◌≡◌, ◌⊎◌, inl, inr, ⊎_elim, ℕ, suc, ◌+◌, ◌≤◌, List, [], ◌∷◌, ◌++◌, length, subst, arith}
use Rattle.std.specs.List.{Contains}
use Rattle.linear_laws.proofs.Members.{Contains-nil, Contains-cons_cases}
use Rattle.work_core.specs.Orders.{Met, visited, given_back, keys_visited, keys_given_back, Meets}

module _ (At : List ℕ → ℕ → List ℕ → Type 0) (Deep : List ℕ → Type 0) (most : ℕ) where
  pub no_more : (n : ℕ) (ws : List (List ℕ)) (met : List Met) → Meets At Deep most n ws met → n ≤ most →
      n + length (keys_visited met) ≤ most
  no_more n ws [] e l = omega (arith, l)
  no_more n ws (visited k ∷ met) (rest, e, few, high, cs, c, r) l =
      let m = no_more (suc n) (cs ++ rest) met r (omega (arith, few)) in omega (arith, m)
  no_more n ws (given_back k ∷ met) (rest, e, stop, r) l = no_more n rest met r l

  pub full_or_deep : (n : ℕ) (ws : List (List ℕ)) (met : List Met) → Meets At Deep most n ws met → n ≤ most → (g : List ℕ) →
      Contains (keys_given_back met) g → (n + length (keys_visited met) ≡ most) ⊎ Deep g
  full_or_deep n ws [] e l g m = absurd (Contains-nil g m)
  full_or_deep n ws (visited k ∷ met) (rest, e, few, high, cs, c, r) l g m =
      ⊎_elim (λ (q : suc n + length (keys_visited met) ≡ most). inl (omega (arith, q))) (λ d. inr d)
      (full_or_deep (suc n) (cs ++ rest) met r (omega (arith, few)) g m)
  full_or_deep n ws (given_back k ∷ met) (rest, e, stop, r) l g m =
      ⊎_elim (λ (q : k ≡ g). here q stop) (λ (c : Contains (keys_given_back met) g). full_or_deep n rest met r l g c)
      (Contains-cons_cases g k (keys_given_back met) m)
    where
      here : k ≡ g → (most ≤ n) ⊎ Deep k → (n + length (keys_visited met) ≡ most) ⊎ Deep g
      here q (inl f) = let m = no_more n rest met r l in inl (omega (arith, f, m))
      here q (inr d) = inr (subst Deep q d)
