use Rattle.std.proofs.Common.{arith}
use Rattle.poly_io.proofs.Parts.{owes_cut, owes_less}
use Rattle.lrs_cli.proofs.CountLemmas.{counts_less, counts_none, owes_last}
use Rattle.lrs_cli.proofs.counts.write_counts.Goals as goal

pub returns-in_err-write_behind : goal.returns-in_err-write_behind
returns-in_err-write_behind g c =
    owes_cut _ c.loop-count.invariant
    (counts_less c.args.counts.now c.args.end.now c.loop-count.count-index _ (omega arith))
    c.from_residual.ensures.0 c.in_err-write_behind.ensures

pub loop-count-preserved : goal.loop-count-preserved
loop-count-preserved g c =
    owes_less c.loop-count.invariant
    (counts_less c.args.counts.now c.args.end.now c.loop-count.count-index _ (omega arith))
    c.in_ok-write_behind.ensures

pub returns : goal.returns
returns g c =
    owes_last c.loop-count.invariant
    (counts_none c.args.counts.now c.args.end.now c.loop-count.count-index (omega arith)) c.write_all.ensures
