use Rattle.std.proofs.Common.{◌≡◌, ◌<◌, ◌+◌, ◌-◌, ◌^◌, ℕ, List, Some, length}
use Rattle.disk_core.specs.Moments.{IsQuiet}
use Rattle.job_ledger.specs.Entries.{IsWindow}
use Rattle.job_ledger.specs.Spans.{ArePlaced}
use Rattle.job_ledger.specs.Walks.{HasReached}
use Rattle.job_ledger.proofs.walk.walk.Given as goal

abbrev pub invariant-records : goal.invariant-records
invariant-records g l = record {
  quiet : IsQuiet g.D.Disk.seen g.D.Disk.images g.D.Disk.moment g.D.Disk.since l.fn.disk l.disk;
  faults : g.D.Disk.faults l.disk ≡ g.D.Disk.faults l.fn.disk;
  within : l.at < l.size;
  fits : l.size < 2 ^ 64;
  size : (f : List ℕ) → g.D.Disk.seen l.fn.disk ≡ Some f → l.fn.size ≡ length f → l.size ≡ length f;
  placed : ArePlaced l.spans.items l.at;
  window : (f : List ℕ) → g.D.Disk.seen l.fn.disk ≡ Some f → l.fn.size ≡ length f → IsWindow l.window f;
  reached : (f : List ℕ) → g.D.Disk.seen l.fn.disk ≡ Some f → l.fn.size ≡ length f → HasReached l.spans.items l.at f;
}

abbrev pub decreases-records : goal.decreases-records
decreases-records g l = (2 ^ 64 - l.size) + (2 ^ 64 - l.at)
