use Rattle.std.proofs.Common.{rules, ◌≡◌}
use Rattle.workers_io.specs.Collects.{collected_attempt, out_after}
use Rattle.workers_io.proofs.QueueLemmas.{collected_all, something}
use Rattle.workers_io.proofs.queue.Queue.collect.Goals as goal

pub take_next-collected-requires : goal.take_next-collected-requires
take_next-collected-requires c = something c.self.inside.coming.items c.self.inside.out.items c.self.invariant (search rules)

pub invariant_of-self : goal.invariant_of-self
invariant_of-self c =
    let i = c.self.inside in
    let left : c.take_off.new.out.items ≡ out_after i.out.items (collected_attempt c.take_next-collected.result) = search rules in
    rw left (collected_all i.coming.items c.take_next-collected.result c.take_next-collected.new.coming.items i.out.items c.take_next-collected.ensures c.self.invariant)
