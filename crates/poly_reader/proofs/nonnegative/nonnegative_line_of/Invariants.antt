use Rattle.std.proofs.Common.{◌≡◌, length}
use Rattle.poly_reader.specs.Head.{head_of, nonnegative_line_of}
use Rattle.poly_reader.proofs.nonnegative.nonnegative_line_of.Given as goal

-- the lines that are left say what all of them say
abbrev pub invariant-lines : goal.invariant-lines
invariant-lines l = nonnegative_line_of (head_of l.lines) ≡ nonnegative_line_of (head_of l.fn.lines)

abbrev pub decreases-lines : goal.decreases-lines
decreases-lines l = length l.lines
