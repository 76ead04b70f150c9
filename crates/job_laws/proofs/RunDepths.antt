-- How deep what a run gives back lies: no deeper than its depth budget.
use Rattle.std.proofs.Common.{⊎_elim, ℕ, suc, ◌+◌, ◌≤◌, ◌<◌, List, [], ◌∷◌, ◌++◌, subst, arith}
use Rattle.std.specs.List.{Contains}
use Rattle.std.proofs.lemmas.Bool.{cases_lt}
use Rattle.linear_laws.proofs.Members.{Contains-nil, Contains-first, Contains-later}
use Rattle.search_laws.proofs.OnceLists.{at_first_or_later, at_either}
use Rattle.work_core.specs.declared.budget.Budget.{Budget}
use Rattle.work_core.specs.Meanings.{Meaning}
use Rattle.work_core.specs.Orders.{Met, visited, given_back, keys_given_back, Meets}
use Rattle.work_core.specs.Outcomes.{IsAtDepth}
use Rattle.job_laws.specs.Branches.{HasBranches}
use Rattle.job_laws.proofs.MetLists.{label_of_child}

module _ (work : Meaning) (b : HasBranches work) (key : List ℕ) (budget : Budget) where
  -- a key under the job's, no deeper than its budget
  abbrev pub IsHigh : List ℕ → Type 0
  IsHigh one = work.is_key one × (d : ℕ) × work.is_depth one key d × (0 < budget.depth → d ≤ budget.depth)

  abbrev pub AreHigh : List (List ℕ) → Type 0
  AreHigh keys = (one : List ℕ) → Contains keys one → IsHigh one

  high_child : (k : List ℕ) (s : ℕ) (c : List ℕ) → IsHigh k → (IsAtDepth work key budget k → ⊥) → work.is_child_at k s c →
      IsHigh c
  high_child k s c (is, d, deep, l) n a = (
    b.child_key k s c is a,
    d + 1,
    b.deeper k s c key d a deep,
    λ some. above d budget.depth (λ le. n (some, d, le, deep)),
  )
    where
      above : (x y : ℕ) → (y ≤ x → ⊥) → x + 1 ≤ y
      above x y h = ⊎_elim (λ (l : x < y). omega (arith, l)) (λ (l : y ≤ x). absurd (h l)) (cases_lt x y)

  pub high_given_back : (most n : ℕ) (ws : List (List ℕ)) (met : List Met) → AreHigh ws →
      Meets work.is_child_at (IsAtDepth work key budget) most n ws met → AreHigh (keys_given_back met)
  high_given_back most n ws [] h e = λ one m. absurd (Contains-nil one m)
  high_given_back most n ws (visited k ∷ met) h (rest, e, few, up, cs, c, r) =
      high_given_back most (suc n) (cs ++ rest) met
      (at_either IsHigh cs rest
      (λ j x. let w = label_of_child work.is_child_at k c.labels cs c.at j x in
      high_child k w.0 j (g k (Contains-first k rest)) up w.2)
      (λ j x. g j (Contains-later j k rest x))) r
    where
      g : AreHigh (k ∷ rest)
      g = subst (λ ks. AreHigh ks) e h
  high_given_back most n ws (given_back k ∷ met) h (rest, e, stop, r) =
      at_first_or_later IsHigh k (keys_given_back met) (g k (Contains-first k rest))
      (high_given_back most n rest met (λ j x. g j (Contains-later j k rest x)) r)
    where
      g : AreHigh (k ∷ rest)
      g = subst (λ ks. AreHigh ks) e h
