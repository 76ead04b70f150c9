use Rattle.std.proofs.Common.{◌++◌, arith, append_assoc, ap}
use Rattle.poly_num.specs.Vectors.{Vector}
use Rattle.hull_lift.proofs.CellLemmas.{first_unit_more}
use Rattle.hull_lift.proofs.cone.append_first_unit.Goals as goal

pub zeros-preserved : goal.zeros-preserved
zeros-preserved c =
    rw (c.in_ok-push-2.ensures.items, c.zeros.invariant, append_assoc)
    (ap (λ (v : Vector). c.args.cells.now.items ++ v) (first_unit_more c.zeros.counter (omega arith)))
