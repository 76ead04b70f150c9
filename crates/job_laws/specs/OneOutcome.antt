-- A job has one run, and one outcome: up to the order of rows and keys.
use Rattle.std.specs.Prelude.{◌≡◌, ℕ, List}
use Rattle.std.specs.List.{Contains}
use Rattle.poly_num.specs.Vectors.{Vector}
use Rattle.search_laws.specs.Shares.{ListsAll}
use Rattle.work_core.specs.declared.budget.Budget.{Budget}
use Rattle.work_core.specs.Orders.{Met}
use Rattle.work_core.specs.Outcomes.{IsRun, IsOutcome}
use Rattle.work_core.specs.Searches.{Search, MayBegin, meaning_of}

-- what becomes of the keys that a run meets is one list
abbrev pub JobsHaveOneRun : Type 0
JobsHaveOneRun =
    (s : Search) → MayBegin s → (key : List ℕ) (budget : Budget) (met other : List Met) →
    IsRun (meaning_of s) key budget met → IsRun (meaning_of s) key budget other → met ≡ other

-- the second are the rows, the keys and the bases of the first; rows and keys may stand in another order
pub record IsSameOutcome (rows : List Vector) (keys : List (List ℕ)) (bases : ℕ) (rows' : List Vector)
    (keys' : List (List ℕ)) (bases' : ℕ) : Type 0 where
  pub rows_are : ListsAll (Contains rows) rows'
  pub keys_are : ListsAll (Contains keys) keys'
  pub bases_are : bases' ≡ bases

-- two outcomes of a job are the same
abbrev pub JobsHaveOneOutcome : Type 0
JobsHaveOneOutcome =
    (s : Search) → MayBegin s → (key : List ℕ) (budget : Budget) (rows : List Vector) (keys : List (List ℕ)) (bases : ℕ)
    (rows' : List Vector) (keys' : List (List ℕ)) (bases' : ℕ) → IsOutcome (meaning_of s) key budget rows keys bases →
    IsOutcome (meaning_of s) key budget rows' keys' bases' → IsSameOutcome rows keys bases rows' keys' bases'

-- and what is the same as an outcome is one
abbrev pub SameRowsAndKeysServe : Type 0
SameRowsAndKeysServe =
    (s : Search) (key : List ℕ) (budget : Budget) (rows : List Vector) (keys : List (List ℕ)) (bases : ℕ)
    (rows' : List Vector) (keys' : List (List ℕ)) (bases' : ℕ) → IsOutcome (meaning_of s) key budget rows keys bases →
    IsSameOutcome rows keys bases rows' keys' bases' → IsOutcome (meaning_of s) key budget rows' keys' bases'
