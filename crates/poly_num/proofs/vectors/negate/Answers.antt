use Rattle.std.proofs.Common.{arith, neg_ℤ}
use Rattle.std.proofs.lemmas.List.Edits.{map_over_more}
use Rattle.poly_num.proofs.vectors.negate.Goals as goal

pub loop-x-preserved : goal.loop-x-preserved
loop-x-preserved c =
    rw (c.neg.ensures, ← c.x-item.is)
    (map_over_more neg_ℤ c.args.v.now c.loop-x.v c.loop-x.x-index c.x-item.result
    (omega arith) c.loop-x.invariant c.x-item.is)
