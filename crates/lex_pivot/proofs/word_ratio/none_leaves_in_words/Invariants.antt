use Rattle.std.proofs.Common.{◌≤◌, ◌<◌, ◌-◌, length, get_or, ℕ}
use Rattle.lex_pivot.specs.Ratios.{IsCandidate}
use Rattle.lex_pivot.proofs.word_ratio.none_leaves_in_words.Given as goal

abbrev pub invariant-parts : goal.invariant-parts
invariant-parts l = record {
  within : l.from ≤ length l.table.dict.now.rows;
  none : (i : ℕ) → i < l.from → IsCandidate l.table.dict.now l.col (get_or l.table.dict.now.rows i 0) → ⊥;
}

abbrev pub decreases-parts : goal.decreases-parts
decreases-parts l = length l.table.dict.now.rows - l.from
