-- The outcome of a job: what its run visits, shows and gives back. It is a function of the job, up to the order of rows and
-- keys.
use Rattle.std.specs.Prelude.{◌≡◌, ℕ, ◌≤◌, ◌<◌, List, [], ◌∷◌, length}
use Rattle.std.specs.List.{Contains}
use Rattle.poly_num.specs.Vectors.{Vector}
use Rattle.search_laws.specs.Shares.{ListsAll}
use Rattle.work_core.specs.declared.budget.Budget.{Budget}
use Rattle.work_core.specs.Meanings.{Meaning}
use Rattle.work_core.specs.Orders.{Met, Meets, keys_visited, keys_given_back}

module _ (work : Meaning) where
  -- the vector is shown at one of these keys
  abbrev pub IsShownAtOne : List (List ℕ) → Vector → Type 0
  IsShownAtOne keys y = (one : List ℕ) × Contains keys one × work.shows one y

  module _ (key : List ℕ) (budget : Budget) where
    -- it lies at the depth budget under the key of the job, or deeper
    abbrev pub IsAtDepth : List ℕ → Type 0
    IsAtDepth one = (0 < budget.depth) × (depth : ℕ) × (budget.depth ≤ depth) × work.is_depth one key depth

    -- all that a run of the job meets, in its order: it visits no key at the depth budget, and none after so many bases
    abbrev pub IsRun : List Met → Type 0
    IsRun met = Meets work.is_child_at IsAtDepth budget.bases 0 (key ∷ []) met

    -- the rows are those shown at what it visits, each once; the keys those that it gives back, each once; and it visits so
    -- many bases
    pub record IsOutcome (rows : List Vector) (keys : List (List ℕ)) (bases : ℕ) : Type 0 where
      pub met : List Met
      pub is_run : IsRun met
      pub rows_are : ListsAll (IsShownAtOne (keys_visited met)) rows
      pub keys_are : ListsAll (Contains (keys_given_back met)) keys
      pub bases_are : bases ≡ length (keys_visited met)
