use Rattle.std.proofs.Common.{◌++◌, append_assoc, ap}
use Rattle.poly_num.specs.Vectors.{Vector}
use Rattle.hull_lift.proofs.CellLemmas.{rows_more}
use Rattle.hull_lift.proofs.cone.append_nonnegative_rows.Goals as goal

pub rows-preserved : goal.rows-preserved
rows-preserved c =
    rw (c.in_ok-append_nonnegative_row.ensures, c.rows.invariant, append_assoc)
    (ap (λ (v : Vector). c.args.cells.now.items ++ v) (rows_more c.args.n 1 c.rows.i))
