-- How far a walk has come from its start.
use Rattle.std.specs.Prelude.{◌≡◌, ℕ, ◌+◌, ◌*◌, ◌≤◌, List, ◌++◌, length}
use Rattle.poly_model.specs.Spaces.{Space}
use Rattle.poly_model.specs.Dictionaries.{Table}
use Rattle.search_laws.specs.Weights.{IsTotal}
use Rattle.search_laws.specs.Splits.{IsSplit}
use Rattle.reverse_step.specs.Walks.{Walk, IsWalkIn, Waits}

-- these keys are visited, and these given back: each cobasis under the job's root is visited, or is under one that waits
-- or is given back; the steps to come are fewer than `left`: one down and one up for each that waits or is under it, and
-- one up for each level above; and the steps taken are one down for each that is visited or given back but the first, and
-- one up for each that was left
pub record HasRun (space : Space) (home : Table) (first walk : Walk) (visited given : List (List ℕ)) (left taken : ℕ) :
    Type 0 where
  pub root : walk.root ≡ first.root
  pub job : walk.job ≡ first.job
  pub phase : walk.dict.phase ≡ first.dict.phase
  pub walk_in : IsWalkIn space home walk
  pub waiting : List (List ℕ)
  pub depth : ℕ
  pub total : ℕ
  pub split : IsSplit space walk.root walk.job visited (waiting ++ given)
  pub waits : Waits space walk depth waiting
  pub sum : IsTotal space walk.root waiting total
  pub few : 2 * total + depth + 1 ≤ left
  pub moved : taken + depth + 2 ≡ 2 * (length visited + length given)
