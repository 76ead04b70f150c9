use Rattle.std.proofs.Common.{◌≡◌, ◌++◌, take, drop}
use Rattle.workers_io.specs.Memory.{spoiled}
use Rattle.workers_io.proofs.queue.spoil.Given as goal

abbrev pub invariant-each : goal.invariant-each
invariant-each l = record {
  done : l.coming.items ≡ spoiled l.attempt (take l.k l.fn.coming.items) ++ drop l.k l.fn.coming.items;
}
