use Rattle.std.proofs.Common.{◌≡◌, ◌++◌, ◌+◌, ◌-◌}
use Rattle.std.specs.List.{range_with_len}
use Rattle.std.specs.VecDeque.{deque_capacity, deque_len}
use Rattle.coordinator_core.proofs.moves.add_places.Given as goal

abbrev pub invariant-loop-place : goal.invariant-loop-place
invariant-loop-place l = record {
  items : l.queue.items ≡ l.fn.queue.items ++ range_with_len l.first (l.place - l.first);
  len : deque_len l.queue ≡ deque_len l.fn.queue + (l.place - l.first);
  capacity : deque_capacity l.queue ≡ deque_capacity l.fn.queue;
}
