use Rattle.std.proofs.Common.{length}
use Rattle.poly_reader.specs.Head.{names_of, head_of}
use Rattle.poly_reader.proofs.MarkLemmas.{IsAt}
use Rattle.poly_reader.proofs.marks.mark_lines.Given as goal

abbrev pub invariant-lines : goal.invariant-lines
invariant-lines l = IsAt l.marks (names_of (head_of l.lines)) l.fn.marks (names_of (head_of l.fn.lines))

abbrev pub decreases-lines : goal.decreases-lines
decreases-lines l = length l.lines
