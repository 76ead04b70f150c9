use Rattle.std.proofs.Common.{◌≡◌, ◌≤◌, ◌-◌, ℕ, List, Some, length, take, drop}
use Rattle.disk_core.specs.Moments.{IsQuiet}
use Rattle.disk_core.proofs.quiet.read_full.Given as goal

abbrev pub invariant-pieces : goal.invariant-pieces
invariant-pieces g l = record {
  quiet : IsQuiet g.D.Disk.seen g.D.Disk.images g.D.Disk.moment g.D.Disk.since l.fn.disk l.disk;
  faults : g.D.Disk.faults l.disk ≡ g.D.Disk.faults l.fn.disk;
  kept : length l.buf ≡ length l.fn.buf;
  within : l.done ≤ length l.buf;
  bytes : (f : List ℕ) → g.D.Disk.seen l.fn.disk ≡ Some f → take l.done l.buf ≡ take l.done (drop l.at f);
}

abbrev pub decreases-pieces : goal.decreases-pieces
decreases-pieces g l = length l.buf - l.done
