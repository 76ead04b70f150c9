use Rattle.std.proofs.Common.{◌≡◌, ◌++◌, length}
use Rattle.poly_reader.specs.Lines.{joined}
use Rattle.poly_reader.proofs.words.Words.next.Given as goal

-- the words that are left are all of them
abbrev pub invariant-lines : goal.invariant-lines
invariant-lines l = l.here ++ joined l.after ≡ l.self

abbrev pub decreases-lines : goal.decreases-lines
decreases-lines l = length l.after
