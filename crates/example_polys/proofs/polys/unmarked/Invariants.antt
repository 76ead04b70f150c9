use Rattle.std.proofs.Common.{◌≡◌, false, replicate}
use Rattle.example_polys.proofs.polys.unmarked.Given as goal

abbrev pub invariant-loop-i : goal.invariant-loop-i
invariant-loop-i l = l.marks.items ≡ replicate l.i false
