use Rattle.std.proofs.Common.{◌≡◌, ◌++◌, replicate}
use Rattle.example_polys.proofs.rows.push_times.Given as goal

abbrev pub invariant-loop-i : goal.invariant-loop-i
invariant-loop-i l = l.cells.items ≡ l.initial.cells.items ++ replicate l.i l.x
