use Rattle.std.proofs.Common.{length, ◌-◌, ◌≡◌, ◌≤◌, [], take}
use Rattle.std.specs.Io.KnownBytes.{Appends}
use Rattle.buffered_sink.proofs.hand.hand_on.Given as goal

abbrev pub invariant-loop-count : goal.invariant-loop-count
invariant-loop-count g l = record {
  within : l.count ≤ length l.bytes;
  bytes : Appends (g.S.Sink.written l.initial.out) (g.S.Sink.written l.out) (take l.count l.bytes);
  same : g.S.Sink.faults l.out ≡ g.S.Sink.faults l.initial.out;
  idle : l.bytes ≡ [] → l.out ≡ l.initial.out;
}

abbrev pub decreases-loop-count : goal.decreases-loop-count
decreases-loop-count g l = length l.bytes - l.count
