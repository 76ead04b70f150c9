use Rattle.std.proofs.Common.{◌≡◌, ◌≤◌, length}
use Rattle.disk_core.specs.Moments.{IsQuiet}
use Rattle.run_ledger.specs.Recorded.{IsRunOfFirst}
use Rattle.run_ledger.proofs.reopen.read_run.Given as goal

-- the state is that of the records before this one, and the disk was only read
abbrev pub invariant-loop-i : goal.invariant-loop-i
invariant-loop-i g l = record {
  within : l.i ≤ length l.fn.ledger.sizes;
  quiet : IsQuiet g.D.Disk.seen g.D.Disk.images g.D.Disk.moment g.D.Disk.since l.fn.disk l.disk;
  same : g.D.Disk.faults l.disk ≡ g.D.Disk.faults l.fn.disk;
  run : IsRunOfFirst l.run l.i l.fn.ledger (g.D.Disk.seen l.fn.disk) (g.D.Disk.images l.fn.disk);
}
