use Rattle.std.proofs.Common.{◌≤◌, ◌-◌, length, take}
use Rattle.lex_pivot.specs.Ratios.{IsBestAt}
use Rattle.lex_pivot.proofs.ratio.leaving_in_wide.Given as goal

abbrev pub invariant-rows : goal.invariant-rows
invariant-rows l = record {
  within : l.from ≤ length l.dict.rows;
  best : IsBestAt l.dict l.order l.col (take l.from l.dict.rows) l.best;
}

abbrev pub decreases-rows : goal.decreases-rows
decreases-rows l = length l.dict.rows - l.from
