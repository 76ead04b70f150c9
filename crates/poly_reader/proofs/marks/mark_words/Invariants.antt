use Rattle.std.proofs.Common.{map, take}
use Rattle.poly_reader.specs.Head.{name_at}
use Rattle.poly_reader.proofs.MarkLemmas.{IsAt}
use Rattle.poly_reader.proofs.marks.mark_words.Given as goal

abbrev pub invariant-words : goal.invariant-words
invariant-words l =
    IsAt l.marks (map (name_at l.line) (take l.left l.words)) l.fn.marks
    (map (name_at l.line) (take l.count l.fn.words))

abbrev pub decreases-words : goal.decreases-words
decreases-words l = l.left
