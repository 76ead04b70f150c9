use Rattle.std.proofs.Common.{◌≤◌, length}
use Rattle.std.specs.List.{All}
use Rattle.reverse_step.specs.Rings.{IsSlotOf}
use Rattle.reverse_step.proofs.ring.add_slots.Given as goal

abbrev pub invariant-slots : goal.invariant-slots
invariant-slots l = record {
  slots : All (IsSlotOf l.dict l.order) l.slots.items;
  more : length l.fn.slots.items ≤ length l.slots.items;
}
