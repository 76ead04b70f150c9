use Rattle.std.proofs.Common.{sym}
use Rattle.hull_lift.proofs.CellLemmas.{all_kinds}
use Rattle.hull_lift.proofs.cone.row_kinds.Goals as goal

pub returns : goal.returns
returns c =
    rw (c.in_ok-append_rays.ensures, c.in_ok-kinds.ensures, c.nonnegative_count.ensures.value) (sym (all_kinds c.args.poly.now))
