use Rattle.std.proofs.Common.{◌≡◌, length}
use Rattle.poly_reader.specs.Lines.{firsts}
use Rattle.poly_reader.specs.FirstFault.{each}
use Rattle.poly_reader.specs.Matrix.{late_fault}
use Rattle.poly_reader.proofs.late.check_late.Given as goal

-- the words that are left say what all of them say
abbrev pub invariant-words : goal.invariant-words
invariant-words l = each late_fault (firsts l.line l.words) ≡ each late_fault (firsts l.end_line l.fn.words)

abbrev pub decreases-words : goal.decreases-words
decreases-words l = length l.words
