use Rattle.poly_reader.proofs.RowLemmas.{IsAt}
use Rattle.poly_reader.proofs.rows.table.Given as goal

abbrev pub invariant-rows : goal.invariant-rows
invariant-rows l = IsAt l.last l.kind l.width l.mark-index l.marks l.words l.cells.items l.fn.header.words
