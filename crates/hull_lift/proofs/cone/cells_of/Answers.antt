use Rattle.std.proofs.Common.{sym}
use Rattle.hull_lift.proofs.CellLemmas.{all_cells, all_wide}
use Rattle.hull_lift.proofs.cone.cells_of.Goals as goal

pub returns-clause-value : goal.returns-clause-value
returns-clause-value c =
    rw (c.in_ok-append_nonnegative_rows.ensures, c.in_ok-cells.ensures.value, c.n.ensures.value, c.nonnegative_count.ensures.value)
    (sym (all_cells c.args.poly.now))

pub returns-clause-width : goal.returns-clause-width
returns-clause-width c = all_wide c.args.poly.now c.in_ok-cells.ensures.width
