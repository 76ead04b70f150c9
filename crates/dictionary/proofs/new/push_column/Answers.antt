use Rattle.std.proofs.Common.{◌+◌, ◌++◌, ◌∷◌, [], pos, get_or, ap, ◌∙◌, arith}
use Rattle.dictionary.specs.New.{first_number, row_cells}
use Rattle.dictionary.proofs.RangeLemmas.{map_range_more}
use Rattle.dictionary.proofs.new.push_column.Goals as goal

pub loop-i-preserved : goal.loop-i-preserved
loop-i-preserved c =
    c.in_ok-push.ensures.items
    ∙ ap (λ z. c.loop-i.cells.items ++ z ∷ [])
    (c.row_cell.ensures ∙ ap (λ row. get_or (row_cells c.args.constants row) c.args.j (pos 0)) c.row.ensures.value)
    ∙ map_range_more (λ i. first_number c.args.constants c.args.sys.now.rows i c.args.j) c.loop-i.cells.items
    c.args.cells.now.items 1 c.loop-i.i (c.loop-i.i + 1) (omega arith) c.loop-i.invariant
