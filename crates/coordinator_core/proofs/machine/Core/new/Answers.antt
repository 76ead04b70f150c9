use Rattle.std.proofs.Common.{arith, ◌∙◌, vec_capacity}
use Rattle.coordinator_core.proofs.KeptLemmas.{kept-new}
use Rattle.coordinator_core.proofs.machine.Core.new.Goals as goal

pub invariant_of-result : goal.invariant_of-result
invariant_of-result c =
    kept-new c.args.options c.args.run c.in_ok-queue.queue.items c.try_reserve.new.self.items (vec_capacity c.try_reserve.new.self) c.requires
    c.in_ok-queue.ensures.keys c.in_ok-queue.ensures.within c.waiting_places.ensures.apart
    (c.in_ok-try_reserve.ensures.items ∙ c.new-sent.ensures.items) (omega (arith, c.in_ok-try_reserve.ensures.ok))
