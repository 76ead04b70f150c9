use Rattle.std.proofs.Common.{◌≡◌}
use Rattle.poly_reader.specs.Head.{are_counts}
use Rattle.poly_reader.proofs.head.are_counts.Given as goal

-- the words that are left say whether all are digits
abbrev pub invariant-words : goal.invariant-words
invariant-words l = are_counts l.left l.words ≡ are_counts l.count l.fn.words

abbrev pub decreases-words : goal.decreases-words
decreases-words l = l.left
