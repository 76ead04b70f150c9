use Rattle.example_polys.proofs.GrowthLemmas.{rows_more, one_behind}
use Rattle.example_polys.specs.Examples.{one_at}
use Rattle.std.proofs.Common.{◌∷◌}
use Rattle.example_polys.proofs.rows.push_unit_rows.Goals as goal

pub loop-i-preserved : goal.loop-i-preserved
loop-i-preserved c =
    let n = c.args.n in
    let i = c.loop-i.i in
    rw (rows_more (λ i. c.args.constant ∷ one_at n i c.args.x) i)
    (one_behind _ _ _ _ _ _ _ c.loop-i.invariant c.in_ok-push.ensures.items
    c.in_ok-push_one_at.ensures)
