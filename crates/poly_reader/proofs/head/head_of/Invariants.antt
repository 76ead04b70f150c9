use Rattle.std.proofs.Common.{length}
use Rattle.poly_reader.proofs.HeadLemmas.{IsAt}
use Rattle.poly_reader.proofs.head.head_of.Given as goal

abbrev pub invariant-lines : goal.invariant-lines
invariant-lines l = IsAt l.kind l.lines l.fn.lines

abbrev pub decreases-lines : goal.decreases-lines
decreases-lines l = length l.lines
