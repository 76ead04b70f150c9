use Rattle.columns.proofs.ColumnLemmas.{row_left}
use Rattle.columns.proofs.wide_column.left_of_row.Goals as goal

pub returns : goal.returns
returns c =
    row_left c.args.old.now c.args.parts.now c.args.column c.args.i c.args.divisor c.in_ok-n.n c.shared_divisor.result
    c.number-g.ensures.positive c.in_ok-n.ensures c.shared_divisor.ensures
