use Rattle.std.proofs.Common.{◌≡◌, ◌≤◌, ◌-◌, List, ℕ, drop}
use Rattle.disk_core.specs.Moments.{IsQuiet}
use Rattle.job_ledger.specs.Ledgers.{IsLedgerAt}
use Rattle.job_text.specs.declared.reply.Reply.{Reply}
use Rattle.work_core.specs.Searches.{Search}
use Rattle.run_state.specs.Payloads.{IsLedgerText}
use Rattle.run_state.specs.Runs.{recorded_rows}
use Rattle.run_ledger.proofs.RowsOwed.{OwesRows}
use Rattle.run_ledger.proofs.printing.print_records.Given as goal

-- the rows of the records before this one were printed, and the disk was only read
abbrev pub invariant-loop-i : goal.invariant-loop-i
invariant-loop-i g l = record {
  from : 1 ≤ l.i;
  quiet : IsQuiet g.D.Disk.seen g.D.Disk.images g.D.Disk.moment g.D.Disk.since l.fn.disk l.disk;
  disk_same : g.D.Disk.faults l.disk ≡ g.D.Disk.faults l.fn.disk;
  sink_same : g.O.Sink.faults l.out ≡ g.O.Sink.faults l.fn.out;
  kind : l.printed.listing ≡ l.fn.printed.listing;
  owes : (s : Search) (replies : List Reply) (payloads : List (List ℕ)) →
      IsLedgerAt l.fn.records.ledger.now payloads (g.D.Disk.seen l.fn.disk) (g.D.Disk.images l.fn.disk) →
      IsLedgerText s replies payloads → s.polyhedron.n ≡ l.fn.records.n →
      OwesRows g.O.Sink (recorded_rows replies) l.fn.printed l.fn.out (recorded_rows (drop (l.i - 1) replies)) l.printed
      l.out;
}
