-- What a run under a key may show and give back.
use Rattle.std.specs.Prelude.{◌≡◌, ◌⊎◌, ℕ, ◌+◌, ◌≤◌, ◌<◌, List}
use Rattle.std.specs.List.{All, Contains}
use Rattle.poly_num.specs.Vectors.{Vector}
use Rattle.search_laws.specs.Partitions.{PartsShare}
use Rattle.work_core.specs.declared.budget.Budget.{Budget}
use Rattle.work_core.specs.declared.budget.TheConstants as constants
use Rattle.work_core.specs.Meanings.{Meaning, StandsUnder, IsKeyBelow, Weighs, WeighTogether}

abbrev pub most_bases : ℕ
most_bases = constants.MOST_BASES

abbrev pub most_depth : ℕ
most_depth = constants.MOST_DEPTH

-- a run shows fewer rows than that, and gives back fewer keys: fewer than 10000 of each at a base
abbrev pub most_lines : ℕ
most_lines = 10000000000000000

-- the ranges of a budget
pub record IsBudget (budget : Budget) : Type 0 where
  pub some : 0 < budget.bases
  pub bases : budget.bases ≤ most_bases
  pub depth : budget.depth ≤ most_depth

module _ (work : Meaning) (key : List ℕ) where
  -- the rows, and the shares of the keys given back, part the share of the key; these lie under it and side by side
  abbrev pub Splits : List Vector → List (List ℕ) → Type 0
  Splits rows keys = PartsShare work.is_key (StandsUnder work) work.in_share key rows keys

  -- so many bases were visited: what the key weighs less what the keys given back weigh. A key is given back only where
  -- the base budget is used up, or at the depth budget; none is deeper
  pub record IsWithinBudget (budget : Budget) (keys : List (List ℕ)) (bases : ℕ) : Type 0 where
    pub whole : ℕ
    pub left : ℕ
    pub weighs : Weighs work key whole
    pub weigh : WeighTogether work keys left
    pub visited : bases + left ≡ whole
    pub some : 0 < bases
    pub most : bases ≤ budget.bases
    pub given : (one : List ℕ) → Contains keys one →
        (bases ≡ budget.bases) ⊎ ((0 < budget.depth) × work.is_depth one key budget.depth)
    pub no_deeper : 0 < budget.depth → (one : List ℕ) (depth : ℕ) → Contains keys one → work.is_depth one key depth →
        depth ≤ budget.depth

  -- of a run that stopped: the rows are in the share of the key, and the keys lie under it
  pub record AreWithin (rows : List Vector) (keys : List (List ℕ)) : Type 0 where
    pub rows_within : All (work.in_share key) rows
    pub keys_within : All (IsKeyBelow work key) keys
