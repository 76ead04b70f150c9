use Rattle.example_polys.proofs.GrowthLemmas.{groups_more, two_behind}
use Rattle.example_polys.specs.Examples.{sides}
use Rattle.example_polys.proofs.rows.push_sides.Goals as goal

pub loop-i-preserved : goal.loop-i-preserved
loop-i-preserved c =
    let n = c.args.n in
    let i = c.loop-i.i in
    rw (groups_more (sides n) i)
    (two_behind _ _ _ _ _ _ _ c.loop-i.invariant (rw c.neg.ensures at c.in_ok-push_side.ensures)
    c.in_ok-push_side-2.ensures)
