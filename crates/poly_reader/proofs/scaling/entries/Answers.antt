use Rattle.poly_reader.proofs.ScalingLemmas.{entries_more, entries_stop}
use Rattle.poly_reader.proofs.scaling.entries.Goals as goal

pub returns-in-None : goal.returns-in-None
returns-in-None c =
    entries_stop c.args.p c.args.q c.row.f-index c.args.row.now c.f-item.result c.row-test.true c.f-item.is
    c.in-None.ensures

pub row-preserved : goal.row-preserved
row-preserved c =
    entries_more c.args.p c.args.q c.row.f-index c.args.row.now c.f-item.result c.row.entries.items _ c.in-Some.z
    c.row-test.true c.f-item.is c.in-Some.ensures.0 c.in-Some.ensures.1 c.in_ok-push-in-Some.ensures.items
    c.row.invariant
