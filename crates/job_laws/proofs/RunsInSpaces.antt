-- A run in the main space of a polyhedron is a run of the job: both have the same children and depths.
use Rattle.std.proofs.Common.{inl, inr, ⊎_elim, ℕ, suc, List, [], ◌∷◌, ◌++◌}
use Rattle.poly_model.specs.Spaces.{main_space}
use Rattle.tree_laws.proofs.ListedVectors as listed
use Rattle.search_laws.specs.Shares.{IsChildAt}
use Rattle.work_core.specs.Orders.{Met, visited, given_back, AreAt, AreChildren, Meets}
use Rattle.work_core.specs.Outcomes.{IsAtDepth}
use Rattle.work_core.specs.Searches.{by_subtrees}
use Rattle.work_core.specs.Subtrees.{IsSubtreeChildAt}
use Rattle.job_laws.specs.RunsInSpaces.{IsAtDepthIn, RunsInSpaceAreRuns}
use Rattle.job_laws.proofs.SubtreeBranches.{child_there, child_back}

module _ (At At' : List ℕ → ℕ → List ℕ → Type 0) (to : (key : List ℕ) (s : ℕ) (c : List ℕ) → At key s c → At' key s c)
    (from : (key : List ℕ) (s : ℕ) (c : List ℕ) → At' key s c → At key s c) where
  other_at : (key labels : List ℕ) (cs : List (List ℕ)) → AreAt At key labels cs → AreAt At' key labels cs
  other_at key [] [] a = tt
  other_at key [] (c ∷ cs) a = absurd a
  other_at key (s ∷ labels) [] a = absurd a
  other_at key (s ∷ labels) (c ∷ cs) (h, a) = (to key s c h, other_at key labels cs a)

  other_children : (key : List ℕ) (cs : List (List ℕ)) → AreChildren At key cs → AreChildren At' key cs
  other_children key cs x = record {
    labels = x.labels;
    ascending = x.ascending;
    at = other_at key x.labels cs x.at;
    each = λ s c y. x.each s c (from key s c y);
  }

  module _ (Deep Deep' : List ℕ → Type 0) (there : (k : List ℕ) → Deep k → Deep' k) (back : (k : List ℕ) → Deep' k → Deep k)
      (most : ℕ) where
    pub other_run : (n : ℕ) (ws : List (List ℕ)) (met : List Met) → Meets At Deep most n ws met →
        Meets At' Deep' most n ws met
    other_run n ws [] e = e
    other_run n ws (visited k ∷ met) (rest, e, few, high, cs, c, r) =
        (rest, e, few, (λ d. high (back k d)), cs, other_children k cs c, other_run (suc n) (cs ++ rest) met r)
    other_run n ws (given_back k ∷ met) (rest, e, stop, r) =
        (rest, e, ⊎_elim (λ l. inl l) (λ d. inr (there k d)) stop, other_run n rest met r)

pub runs_in_space_are_runs : RunsInSpaceAreRuns
runs_in_space_are_runs p root free columns job budget met = (
  λ r. other_run There Here there_here here_there DeepThere DeepHere depth_back depth_there budget.bases 0 (job ∷ []) met r,
  λ r. other_run Here There here_there there_here DeepHere DeepThere depth_there depth_back budget.bases 0 (job ∷ []) met r,
)
  where
    There : List ℕ → ℕ → List ℕ → Type 0
    There = IsChildAt (main_space p free) root

    Here : List ℕ → ℕ → List ℕ → Type 0
    Here = IsSubtreeChildAt p root

    there_here : (key : List ℕ) (s : ℕ) (c : List ℕ) → There key s c → Here key s c
    there_here = child_back p root free columns

    here_there : (key : List ℕ) (s : ℕ) (c : List ℕ) → Here key s c → There key s c
    here_there = child_there p root free columns

    DeepThere : List ℕ → Type 0
    DeepThere = IsAtDepthIn (main_space p free) root job budget

    DeepHere : List ℕ → Type 0
    DeepHere = IsAtDepth (by_subtrees p root) job budget

    depth_back : (k : List ℕ) → DeepThere k → DeepHere k
    depth_back k d = (d.0, d.1, d.2, listed.depth_back p root free columns k job d.1 d.3)

    depth_there : (k : List ℕ) → DeepHere k → DeepThere k
    depth_there k d = (d.0, d.1, d.2, listed.depth_there p root free columns k job d.1 d.3)
