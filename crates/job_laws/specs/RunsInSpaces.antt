-- A run by subtrees in the words of one space: what a search that walks in the main space of a polyhedron can say.
use Rattle.std.specs.Prelude.{◌↔◌, ℕ, ◌≤◌, ◌<◌, List, [], ◌∷◌}
use Rattle.poly_model.specs.FreeColumns.{AreFreeColumns}
use Rattle.poly_model.specs.Spaces.{Space, main_space}
use Rattle.poly_model.specs.Systems.{Polyhedron, cone_of}
use Rattle.poly_model.specs.Tree.{IsAbove}
use Rattle.search_laws.specs.Shares.{IsChildAt}
use Rattle.work_core.specs.declared.budget.Budget.{Budget}
use Rattle.work_core.specs.Orders.{Met, Meets}
use Rattle.work_core.specs.Outcomes.{IsRun}
use Rattle.work_core.specs.Searches.{by_subtrees}

module _ (space : Space) (root job : List ℕ) (budget : Budget) where
  -- a cobasis at the depth budget under that of the job, or deeper
  abbrev pub IsAtDepthIn : List ℕ → Type 0
  IsAtDepthIn one = (0 < budget.depth) × (depth : ℕ) × (budget.depth ≤ depth) × IsAbove space root depth one job

  abbrev pub IsRunIn : List Met → Type 0
  IsRunIn met = Meets (IsChildAt space root) IsAtDepthIn budget.bases 0 (job ∷ []) met

-- a run in the main space of a polyhedron is one of the job, and each is
abbrev pub RunsInSpaceAreRuns : Type 0
RunsInSpaceAreRuns =
    (p : Polyhedron) (root free : List ℕ) → AreFreeColumns (cone_of p) free → (job : List ℕ) (budget : Budget)
    (met : List Met) → IsRunIn (main_space p free) root job budget met ↔ IsRun (by_subtrees p root) job budget met
