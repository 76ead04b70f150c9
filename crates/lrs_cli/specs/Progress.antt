-- What `status` answers, and what it has then written.
use Rattle.std.specs.Prelude.{◌≡◌, ℕ, List, Option}
use Rattle.std.specs.Io.KnownBytes.{Appends}
use Rattle.poly_io.specs.Written.{AppendsPart}
use Rattle.disk_core.specs.declared.disk.Disk.{Ghosts as Disk}
use Rattle.disk_core.specs.Contents.{Told}
use Rattle.disk_core.specs.Moments.{LeavesOnly}
use Rattle.job_ledger.specs.Records.{HasNoRun}
use Rattle.run_ledger.specs.declared.progress.Progress.{Progress}
use Rattle.run_ledger.specs.Progress.{IsProgressOf, progress_text}
use Rattle.run_ledger.specs.Recorded.{IsBadLedger}
use Rattle.lrs_cli.specs.declared.status.Status.{Status}
use Rattle.lrs_cli.specs.declared.status.Status.TheVariants.{Done, Usage, BadFile, BadJob, Infeasible, Overflow, ReadFault, WriteFault, DiskFault, Lost, NoRun, HasRun, BadLedger, LedgerLimit, OutOfMemory}
use Rattle.lrs_cli.specs.Ledgers.{RoseAt}

-- what each answer says of the content of the disk, which is `seen`, and of the output, which was `written` and is `now`;
-- `Unwritten` says that it is as it was
abbrev pub TellsProgress : Option (List ℕ) → Option (List ℕ) → Option (List ℕ) → Type 0 → Status → Type 0
-- the three lines of the run were written; the rows are those recorded, and the lines none
TellsProgress seen written now Unwritten (Done rows lines) = (lines ≡ 0)
    × Told seen (λ f. (p : Progress) × IsProgressOf p f × (rows ≡ p.rows) × Appends written now (progress_text p))
-- first bytes of them were
TellsProgress seen written now Unwritten WriteFault =
    Told seen (λ f. (p : Progress) × IsProgressOf p f × AppendsPart written now (progress_text p))
-- the file is empty or its first gate is closed
TellsProgress seen written now Unwritten NoRun = Unwritten × Told seen HasNoRun
-- the first record that breaks the ledger text
TellsProgress seen written now Unwritten (BadLedger place) = Unwritten × Told seen (IsBadLedger place)
TellsProgress seen written now Unwritten DiskFault = Unwritten
TellsProgress seen written now Unwritten OutOfMemory = Unwritten
-- these are no answers of `status`
TellsProgress seen written now Unwritten Usage = ⊥
TellsProgress seen written now Unwritten (BadFile f) = ⊥
TellsProgress seen written now Unwritten (BadJob place) = ⊥
TellsProgress seen written now Unwritten Infeasible = ⊥
TellsProgress seen written now Unwritten (Overflow o) = ⊥
TellsProgress seen written now Unwritten ReadFault = ⊥
TellsProgress seen written now Unwritten (Lost lost strays) = ⊥
TellsProgress seen written now Unwritten HasRun = ⊥
TellsProgress seen written now Unwritten (LedgerLimit need most) = ⊥

-- The answer of `status`.
pub record AnswersStatus {D : Type 0} (disk : Disk D) (old new : D) (written now : Option (List ℕ)) (faults faults' : ℕ)
    (Unwritten : Type 0) (answer : Status) : Type 0 where
  pub tells : TellsProgress (disk.seen old) written now Unwritten answer
  -- whatever the answer, no image is new
  pub leaves : LeavesOnly disk.moment disk.since old new (disk.images old)
  -- a write, a call of the disk failed exactly where the answer says so
  pub writes : RoseAt WriteFault answer faults faults'
  pub disk_calls : RoseAt DiskFault answer (disk.faults old) (disk.faults new)
