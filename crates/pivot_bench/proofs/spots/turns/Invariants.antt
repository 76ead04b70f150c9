use Rattle.std.proofs.Common.{◌≤◌}
use Rattle.pivot_bench.proofs.spots.turns.Given as goal

abbrev pub invariant-loop-k : goal.invariant-loop-k
invariant-loop-k g l = l.done ≤ l.k
