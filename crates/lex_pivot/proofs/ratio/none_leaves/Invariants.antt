use Rattle.std.proofs.Common.{ℕ, ◌<◌}
use Rattle.std.specs.List.{slice_index_or}
use Rattle.lex_pivot.specs.Ratios.{IsCandidate}
use Rattle.lex_pivot.proofs.ratio.none_leaves.Given as goal

abbrev pub invariant-rows : goal.invariant-rows
invariant-rows l = (i : ℕ) → i < l.place → IsCandidate l.dict l.col (slice_index_or l.dict.rows i 0) → ⊥
