use Rattle.std.proofs.Common.{◌≤◌, ◌-◌, length, take}
use Rattle.lex_pivot.specs.Ratios.{IsBestAt}
use Rattle.lex_pivot.proofs.word_ratio.leaving_in_words.Given as goal

abbrev pub invariant-parts : goal.invariant-parts
invariant-parts l = record {
  within : l.from ≤ length l.table.dict.now.rows;
  best : IsBestAt l.table.dict.now l.table.order.now l.col (take l.from l.table.dict.now.rows) l.best;
}

abbrev pub decreases-parts : goal.decreases-parts
decreases-parts l = length l.table.dict.now.rows - l.from
