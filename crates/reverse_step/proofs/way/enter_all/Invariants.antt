use Rattle.std.proofs.Common.{ℕ, ◌<◌, ◌≤◌, ◌+◌, get_or}
use Rattle.std.specs.List.{Contains}
use Rattle.reverse_step.specs.Ways.{LiesBetween}
use Rattle.reverse_step.proofs.way.enter_all.Given as goal

-- the labels before this one have entered, with a pivot at most for each
abbrev pub invariant-labels : goal.invariant-labels
invariant-labels g l =
    record {
      way : LiesBetween l.fn.dict l.key l.dict;
      entered : (j : ℕ) → j < l.i → Contains l.dict.key (get_or l.key j 0);
      counted : l.steps ≤ l.fn.steps + l.i;
    }
