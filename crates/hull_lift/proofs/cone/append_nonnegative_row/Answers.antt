use Rattle.std.proofs.Common.{◌++◌, arith, append_assoc, ap}
use Rattle.poly_num.specs.Vectors.{Vector}
use Rattle.hull_lift.proofs.CellLemmas.{row_more, row_whole}
use Rattle.hull_lift.proofs.cone.append_nonnegative_row.Goals as goal

pub entries-preserved : goal.entries-preserved
entries-preserved c =
    rw (c.in_ok-push.ensures.items, c.entries.invariant, c.unit_entry.ensures, append_assoc)
    (ap (λ (v : Vector). c.args.cells.now.items ++ v) (row_more c.args.n c.args.j c.entries.i (omega arith)))
