use Rattle.std.proofs.Common.{arith}
use Rattle.coordinator_core.proofs.KeptLemmas.{range-more}
use Rattle.coordinator_core.proofs.moves.add_places.Goals as goal

pub loop-place-preserved : goal.loop-place-preserved
loop-place-preserved c = record {
  items = range-more c.args.queue.now.items c.loop-place.queue.items c.push_back_reserved.new.self.items c.args.first c.loop-place.place (omega arith)
      c.loop-place.invariant.items c.push_back_reserved.ensures.items;
  len = omega arith;
  capacity = omega arith;
}
