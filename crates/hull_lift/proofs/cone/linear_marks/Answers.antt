use Rattle.std.proofs.Common.{sym}
use Rattle.hull_lift.proofs.CellLemmas.{all_marks}
use Rattle.hull_lift.proofs.cone.linear_marks.Goals as goal

pub returns-clause-value : goal.returns-clause-value
returns-clause-value c =
    rw (c.in_ok-append_unmarked.ensures, c.in_ok-marks.ensures.value, c.nonnegative_count.ensures.value)
    (sym (all_marks c.args.poly.now))
