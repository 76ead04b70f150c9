use Rattle.poly_io.proofs.Parts.{owes_after, split_at}
use Rattle.poly_io.proofs.write.write_all.Goals as goal

pub loop-rest-preserved : goal.loop-rest-preserved
loop-rest-preserved g c =
    let taken = c.in_ok-count in
    owes_after _ c.loop-rest.invariant (split_at c.loop-rest.rest.now taken.count) taken.ensures.bytes
    taken.ensures.cause.same
