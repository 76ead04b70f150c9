-- Why a call stops: before its first action, in its turns, and when it prints.
use Rattle.std.specs.Prelude.{ℕ, List, Option, Result, OnErr, IsErrOf}
use Rattle.poly_model.specs.declared.overflow.Overflow.{Overflow as Passed}
use Rattle.disk_core.specs.declared.disk.Disk.{Ghosts as Disk}
use Rattle.job_ledger.specs.Ledgers.{Known}
use Rattle.workers_io.specs.History.{Happening}
use Rattle.coordinator_core.specs.Machine.{State}
use Rattle.coordinator.specs.declared.stops.GoStop.{GoStop}
use Rattle.coordinator.specs.declared.stops.GoStop.TheVariants.{LedgerLimit, Overflow, Lost}
use Rattle.coordinator.specs.declared.stops.ResumeStop.{ResumeStop}
use Rattle.coordinator.specs.declared.stops.ResumeStop.TheVariants.{NoRun, BadLedger as BadAgain, LedgerLimit as LimitAgain, Lost as LostAgain, DiskFault as DiskAgain, WriteFault as WriteAgain}
use Rattle.coordinator.specs.declared.stops.TurnStop.{TurnStop}
use Rattle.coordinator.specs.declared.stops.TurnStop.TheVariants.{LedgerLimit as TurnLimit, Overflow as TurnOverflow}
use Rattle.coordinator.specs.Following.{EndsBy, LeadsSomewhere}
use Rattle.coordinator.specs.Leaving.{Adds, IsRefusedBy, LeavesFronts}

-- nothing of the work
pub record IsOfPrinting {T : Type 0} (result : Result T GoStop) : Type 0 where
  pub limit : (need most : ℕ) → IsErrOf result (LedgerLimit need most) → ⊥
  pub passes : (o : Passed) → IsErrOf result (Overflow o) → ⊥
  pub lost : (l t : ℕ) → IsErrOf result (Lost l t) → ⊥

-- nothing of the file, the work and the sink
pub record IsOfLines {T : Type 0} (result : Result T ResumeStop) : Type 0 where
  pub none : IsErrOf result NoRun → ⊥
  pub bad : (place : ℕ) → IsErrOf result (BadAgain place) → ⊥
  pub limit : (need most : ℕ) → IsErrOf result (LimitAgain need most) → ⊥
  pub lost : (l t : ℕ) → IsErrOf result (LostAgain l t) → ⊥
  pub disk : IsErrOf result DiskAgain → ⊥
  pub sink : IsErrOf result WriteAgain → ⊥

-- whatever stops turns, steps have led somewhere, and each image has some first ones of the replies that they accept; at an
-- overflow a reply ended the call, and the ledger has those before it; at a limit the last reply would pass it
pub record StopsTurns {D T : Type 0} (disk : Disk D) (old new : D) (ledger ledger' : Known) (s : State) (told told' : Option (List Happening)) (result : Result T TurnStop) : Type 0 where
  pub somewhere : OnErr result ((texts : List (List ℕ)) × LeadsSomewhere s told told' texts × LeavesFronts disk old new ledger texts)
  pub overflow : (o : Passed) → IsErrOf result (TurnOverflow o) → (texts : List (List ℕ)) × EndsBy s o told told' texts × Adds disk old new ledger ledger' texts
  pub past : (need most : ℕ) → IsErrOf result (TurnLimit need most) →
      (texts : List (List ℕ)) × LeadsSomewhere s told told' texts × LeavesFronts disk old new ledger texts × IsRefusedBy ledger texts need most
