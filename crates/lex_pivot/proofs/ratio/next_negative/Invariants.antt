use Rattle.std.proofs.Common.{ℕ, ◌<◌, ◌≤◌, ◌<ℤ◌, pos}
use Rattle.std.specs.List.{slice_index_or}
use Rattle.lex_pivot.proofs.ratio.next_negative.Given as goal

abbrev pub invariant-places : goal.invariant-places
invariant-places l = (i : ℕ) → l.from ≤ i → i < l.place → slice_index_or l.cells i (pos 0) <ℤ pos 0 → ⊥
