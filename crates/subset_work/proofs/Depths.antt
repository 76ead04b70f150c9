-- The depth budget of a job, by the lengths of lists.
use Rattle.std.proofs.Common.{◌≡◌, ◌⊎◌, inl, inr, ⊎_elim, ℕ, suc, ◌+◌, ◌≤◌, ◌<◌, List, [], ◌∷◌, ◌++◌, length, length-append, ap, subst, arith}
use Rattle.std.specs.List.{Contains}
use Rattle.std.proofs.lemmas.Bool.{cases_lt}
use Rattle.poly_model.specs.Systems.{Polyhedron}
use Rattle.linear_laws.proofs.Members.{Contains-first, Contains-later}
use Rattle.search_laws.proofs.OnceLists.{at_either}
use Rattle.work_core.specs.declared.budget.Budget.{Budget}
use Rattle.work_core.specs.Meanings.{IsKeyBelow}
use Rattle.work_core.specs.Orders.{Met, visited, given_back, Meets}
use Rattle.work_core.specs.Outcomes.{IsAtDepth}
use Rattle.work_core.specs.Searches.{by_subsets}
use Rattle.work_core.specs.Splits.{most_depth}
use Rattle.work_core.specs.Subsets.{IsSubsetDepth, IsSubsetChildAt}
use Rattle.work_core.proofs.SubsetShares.{has_shares}
use Rattle.job_laws.proofs.MetLists.{label_of_child}
use Rattle.job_laws.proofs.SubsetBranches.{subsets_branch}
use Rattle.subset_work.specs.Walked.{IsFar}

-- no list under a key is both deep and not far, or far and not deep
module _ (p : Polyhedron) (key : List ℕ) (budget : Budget) (longest : ℕ)
    (far : 0 < budget.depth → longest ≡ length key + budget.depth) (near : budget.depth ≡ 0 → most_depth < longest) where
  abbrev Below : List ℕ → Type 0
  Below = IsKeyBelow (by_subsets p) key

  abbrev Deep : List ℕ → Type 0
  Deep = IsAtDepth (by_subsets p) key budget

  long_as : (k : List ℕ) (depth : ℕ) → IsSubsetDepth k key depth → length k ≡ length key + depth
  long_as k depth e = let f = ap length e.begins in omega (arith, f, length-append key e.more, e.count)

  deep_at : (k : List ℕ) → Below k → IsFar longest k → Deep k
  deep_at k u l = by (cases_lt 0 budget.depth)
    where
      by : (0 < budget.depth) ⊎ (budget.depth ≤ 0) → Deep k
      by (inl h) = let f = far h in let e = long_as k u.1.0 u.1.1 in (h, u.1.0, omega (arith, l, f, e), u.1.1)
      by (inr h) = let f = near (omega (arith, h)) in let r = u.0.ascending.room in absurd (omega (arith, l, f, r))

  far_at : (k : List ℕ) → Deep k → IsFar longest k
  far_at k (some, depth, le, deep) = let f = far some in let e = long_as k depth deep in omega (arith, f, e, le)

  child_below : (k : List ℕ) (s : ℕ) (c : List ℕ) → Below k → IsSubsetChildAt p k s c → Below c
  child_below k s c u x =
      (x.is_key, (has_shares p).through c k key x.is_key (1, (subsets_branch p).child_under k s c x) u.1)

  -- so a run that gives far lists back is one of the job
  pub run_at_depth : (most n : ℕ) (ws : List (List ℕ)) (met : List Met) → ((k : List ℕ) → Contains ws k → Below k) →
      Meets (IsSubsetChildAt p) (IsFar longest) most n ws met → Meets (IsSubsetChildAt p) Deep most n ws met
  run_at_depth most n ws [] h e = e
  run_at_depth most n ws (visited k ∷ met) h (rest, e, few, high, cs, c, r) = (
    rest,
    e,
    few,
    (λ d. high (far_at k d)),
    cs,
    c,
    run_at_depth most (suc n) (cs ++ rest) met
        (at_either Below cs rest
        (λ j x. let w = label_of_child (IsSubsetChildAt p) k c.labels cs c.at j x in
        child_below k w.0 j (g k (Contains-first k rest)) w.2)
        (λ j x. g j (Contains-later j k rest x))) r,
  )
    where
      g : (j : List ℕ) → Contains (k ∷ rest) j → Below j
      g = subst (λ ks. (j : List ℕ) → Contains ks j → Below j) e h
  run_at_depth most n ws (given_back k ∷ met) h (rest, e, stop, r) = (
    rest,
    e,
    ⊎_elim (λ l. inl l) (λ d. inr (deep_at k (g k (Contains-first k rest)) d)) stop,
    run_at_depth most n rest met (λ j x. g j (Contains-later j k rest x)) r,
  )
    where
      g : (j : List ℕ) → Contains (k ∷ rest) j → Below j
      g = subst (λ ks. (j : List ℕ) → Contains ks j → Below j) e h
