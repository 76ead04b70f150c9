use Rattle.std.proofs.Common.{take}
use Rattle.poly_reader.specs.Scaling.{common_den}
use Rattle.poly_reader.proofs.ScalingLemmas.{den_starts, den_more, dens_from_capped}
use Rattle.poly_reader.proofs.scaling.common_denominator.Goals as goal

pub row-init : goal.row-init
row-init c = den_starts

pub next_denominator-q-requires-clause-before : goal.next_denominator-q-requires-clause-before
next_denominator-q-requires-clause-before c =
    dens_from_capped (common_den (take c.row.f-index c.args.row.now)) c.row.q c.row.invariant

pub row-preserved : goal.row-preserved
row-preserved c =
    let row = c.args.row.now in let i = c.row.f-index in let f = c.f-item.result in
    rw (den_more row i f c.row-test.true c.f-item.is, ← c.size_of_den.ensures.value)
    (c.next_denominator-q.ensures (common_den (take i row)) c.row.invariant)
