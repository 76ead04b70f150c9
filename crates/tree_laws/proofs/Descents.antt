-- A descent in a strict order ends, where the keys of all states stand in one list, and has no more steps than keys.
use Rattle.std.proofs.Common.{◌≡◌, ◌≢◌, ◌⊎◌, inl, inr, ⊎_elim, ℕ, zero, suc, ◌<◌, ◌≤◌, List, [], ◌∷◌, length, refl, sym, subst, ◌∙◌, arith}
use Rattle.std.specs.List.{Contains}
use Rattle.linear_laws.proofs.Members.{Contains-nil, Contains-first, Contains-later, Contains-cons_cases}

-- ---- a list with one member taken out
pub record TakenOut {K : Type 0} (ks : List K) (k : K) : Type 0 where
  pub rest : List K
  pub shorter : length rest < length ks
  pub others : (j : K) → Contains ks j → j ≢ k → Contains rest j

pub take_out : {K : Type 0} (ks : List K) (k : K) → Contains ks k → TakenOut ks k
take_out {K} [] k c = absurd (Contains-nil k c)
take_out {K} (x ∷ ks) k c = ⊎_elim here (λ (d : Contains ks k). deeper (take_out ks k d)) (Contains-cons_cases k x ks c)
  where
    here : x ≡ k → TakenOut (x ∷ ks) k
    here e = record {
      rest = ks;
      shorter = omega arith;
      others = λ j i n. ⊎_elim (λ (f : x ≡ j). absurd (n (sym f ∙ e))) (λ (d : Contains ks j). d)
          (Contains-cons_cases j x ks i);
    }

    deeper : TakenOut ks k → TakenOut (x ∷ ks) k
    deeper t = record {
      rest = x ∷ t.rest;
      shorter = omega (arith, t.shorter);
      others = λ j i n. ⊎_elim
          (λ (f : x ≡ j). subst (λ y. Contains (x ∷ t.rest) y) f (Contains-first x t.rest))
          (λ (d : Contains ks j). Contains-later j x t.rest (t.others j d n)) (Contains-cons_cases j x ks i);
    }

-- ---- chains
-- so many steps lead from d to e
abbrev pub Chain : (S : Type 0) (Step : S → S → Type 0) → ℕ → S → S → Type 0
Chain S Step zero d e = d ≡ e
Chain S Step (suc n) d e = (m : S) × Step d m × Chain S Step n m e

-- Before e d: e stands below d
module _ (S K : Type 0) (key : S → K) (Before : S → S → Type 0)
    (transitive : (e f g : S) → Before e f → Before f g → Before e g)
    (apart : (e f : S) → Before e f → key e ≢ key f) where
  -- what holds of a state within a number of steps, or follows for it from a state below it within one step less, holds
  -- of all within as many steps as the list has keys
  by_descent_in : (P : ℕ → S → Type 0) →
      ((m : ℕ) (d : S) → P (suc m) d ⊎ ((e : S) × Before e d × (P m e → P (suc m) d))) → (n : ℕ) (ks : List K) →
      length ks ≤ n → (d : S) → Contains ks (key d) → ((e : S) → Before e d → Contains ks (key e)) → P n d
  by_descent_in P step zero ks l d here below =
      let t = take_out ks (key d) here in absurd (omega (arith, t.shorter))
  by_descent_in P step (suc m) ks l d here below =
      let t = take_out ks (key d) here in
      ⊎_elim
      (λ (p : P (suc m) d). p)
      (λ (w : (e : S) × Before e d × (P m e → P (suc m) d)).
      w.2 (by_descent_in P step m t.rest (omega (arith, t.shorter)) w.0
      (t.others (key w.0) (below w.0 w.1) (apart w.0 d w.1))
      (λ f b. let c = transitive f w.0 d b w.1 in t.others (key f) (below f c) (apart f d c))))
      (step m d)

  -- what holds of a state where it holds of all states below it, holds of all
  by_all_below_in : (P : S → Type 0) → ((d : S) → ((e : S) → Before e d → P e) → P d) → (n : ℕ) (ks : List K) →
      length ks < n → (d : S) → Contains ks (key d) → ((e : S) → Before e d → Contains ks (key e)) → P d
  by_all_below_in P step zero ks l d here below = absurd (omega arith)
  by_all_below_in P step (suc n) ks l d here below =
      let t = take_out ks (key d) here in
      step d (λ e b. by_all_below_in P step n t.rest (omega (arith, t.shorter)) e
      (t.others (key e) (below e b) (apart e d b))
      (λ f c. let g = transitive f e d c b in t.others (key f) (below f g) (apart f d g)))

  module _ (ks : List K) (all : (d : S) → Contains ks (key d)) where
    pub by_all_below : (P : S → Type 0) → ((d : S) → ((e : S) → Before e d → P e) → P d) → (d : S) → P d
    by_all_below P step d = by_all_below_in P step (suc (length ks)) ks (omega arith) d (all d) (λ e b. all e)

    pub by_descent_within : (P : ℕ → S → Type 0) →
        ((m : ℕ) (d : S) → P (suc m) d ⊎ ((e : S) × Before e d × (P m e → P (suc m) d))) → (n : ℕ) → length ks ≤ n →
        (d : S) → P n d
    by_descent_within P step n l d = by_descent_in P step n ks l d (all d) (λ e b. all e)

    -- what holds of a state, or follows for it from a state below it, holds of all
    pub by_descent : (P : S → Type 0) → ((d : S) → P d ⊎ ((e : S) × Before e d × (P e → P d))) → (d : S) → P d
    by_descent P step = by_descent_within (λ n d. P d) (λ m d. step d) (length ks) (omega arith)

    -- from each state one that is done is reached
    pub descend : (Done : S → Type 0) → ((d : S) → Done d ⊎ ((e : S) × Before e d)) → S → (e : S) × Done e
    descend Done step d =
        by_descent (λ d. (e : S) × Done e)
        (λ d. ⊎_elim (λ (h : Done d). inl (d, h)) (λ (w : (e : S) × Before e d). inr (w.0, w.1, λ r. r)) (step d)) d

    -- by steps, so many of them
    pub descend_by : (Step : S → S → Type 0) (Done : S → Type 0) →
        ((d : S) → Done d ⊎ ((e : S) × Step d e × Before e d)) →
        (d : S) → (n : ℕ) × (e : S) × Chain S Step n d e × Done e
    descend_by Step Done step d =
        by_descent (λ d. (n : ℕ) × (e : S) × Chain S Step n d e × Done e)
        (λ d. ⊎_elim
        (λ (h : Done d). inl (zero, d, refl, h))
        (λ (w : (e : S) × Step d e × Before e d).
        inr (w.0, w.2, λ r. (suc r.0, r.1, (w.0, w.1, r.2), r.3))) (step d)) d
