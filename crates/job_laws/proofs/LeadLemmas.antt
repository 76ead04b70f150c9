-- A run step by step, for a search that goes on in a loop: what is met from here on, behind what was met, is all that is met.
use Rattle.std.proofs.Common.{◌≡◌, ◌⊎◌, ℕ, suc, ◌≤◌, ◌<◌, List, [], ◌∷◌, ◌++◌, append_assoc, append-nil, sym, subst}
use Rattle.work_core.specs.Orders.{Met, visited, given_back, AreChildren, Meets}

module _ (At : List ℕ → ℕ → List ℕ → Type 0) (Deep : List ℕ → Type 0) (most : ℕ) (start : List (List ℕ)) where
  -- n keys were visited, and these wait
  abbrev pub Leads : List Met → ℕ → List (List ℕ) → Type 0
  Leads met n waiting =
      (more : List Met) → Meets At Deep most n waiting more → Meets At Deep most 0 start (met ++ more)

  pub leads_visited : (met : List Met) (n : ℕ) (waiting : List (List ℕ)) (k : List ℕ) (rest cs : List (List ℕ)) →
      Leads met n waiting → waiting ≡ k ∷ rest → n < most → (Deep k → ⊥) → AreChildren At k cs →
      Leads (met ++ visited k ∷ []) (suc n) (cs ++ rest)
  leads_visited met n waiting k rest cs leads e few high c more r =
      subst (λ m. Meets At Deep most 0 start m) (sym (append_assoc met (visited k ∷ []) more))
      (leads (visited k ∷ more) (rest, e, few, high, cs, c, r))

  pub leads_given_back : (met : List Met) (n : ℕ) (waiting : List (List ℕ)) (k : List ℕ) (rest : List (List ℕ)) →
      Leads met n waiting → waiting ≡ k ∷ rest → (most ≤ n) ⊎ Deep k → Leads (met ++ given_back k ∷ []) n rest
  leads_given_back met n waiting k rest leads e stop more r =
      subst (λ m. Meets At Deep most 0 start m) (sym (append_assoc met (given_back k ∷ []) more))
      (leads (given_back k ∷ more) (rest, e, stop, r))

  -- none waits any more
  pub leads_to_end : (met : List Met) (n : ℕ) (waiting : List (List ℕ)) → Leads met n waiting → waiting ≡ [] →
      Meets At Deep most 0 start met
  leads_to_end met n waiting leads e = subst (λ m. Meets At Deep most 0 start m) (append-nil met) (leads [] e)
