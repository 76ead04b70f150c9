use Rattle.poly_reader.proofs.RowLemmas.{IsInRow}
use Rattle.poly_reader.proofs.rows.numbers_of.Given as goal

abbrev pub invariant-numbers : goal.invariant-numbers
invariant-numbers l = IsInRow l.last l.left l.words l.numbers.items l.width l.fn.words

abbrev pub decreases-numbers : goal.decreases-numbers
decreases-numbers l = l.left
