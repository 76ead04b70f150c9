-- What `resume` answers, and what it has then printed and left.
use Rattle.std.specs.Prelude.{◌≡◌, ◌⊎◌, ◌<◌, ℕ, List, [], ◌++◌, length, Option, Some}
use Rattle.poly_io.specs.Causes.{Rose}
use Rattle.poly_model.specs.declared.overflow.Overflow.{Overflow as Passed}
use Rattle.poly_model.specs.Due.{IsDue, IsAskedBefore}
use Rattle.poly_model.specs.Equations.{AreConsistent}
use Rattle.poly_model.specs.Overflows.{Passes}
use Rattle.disk_core.specs.declared.disk.Disk.{Ghosts as Disk}
use Rattle.disk_core.specs.Contents.{Told}
use Rattle.disk_core.specs.Moments.{LeavesOnly}
use Rattle.job_ledger.specs.Ledgers.{new_ledger}
use Rattle.job_ledger.specs.Records.{HasNoRun, IsOpen}
use Rattle.run_ledger.specs.Recorded.{IsBadLedger}
use Rattle.workers_io.specs.declared.workers.Workers.{Ghosts as Workers}
use Rattle.workers_io.specs.History.{Happening}
use Rattle.coordinator_core.specs.declared.options.Options.{Options}
use Rattle.coordinator.specs.Calls.{RecordedRun, state_at}
use Rattle.coordinator.specs.Ending.{Rests}
use Rattle.coordinator.specs.Following.{EndsBy, Finishes, GivesUp, LeadsSomewhere}
use Rattle.coordinator.specs.Leaving.{HasFront, IsRefusedBy}
use Rattle.run_laws.specs.Laws.{IsLedgerFile, TellsFullAnswers}
use Rattle.lrs_cli.specs.declared.status.Status.{Status}
use Rattle.lrs_cli.specs.declared.status.Status.TheVariants.{Done, Overflow, WriteFault}
use Rattle.lrs_cli.specs.Answers.{Knows, PassesNowhere, WritesPart, WritesWhole}
use Rattle.lrs_cli.specs.Ledgers.{AllGoOnFrom, AreTrusted, ComesToItsEnd, DiskRose, EndsAs, GoesOnFrom, Resources, RoseAt, TellsOf, WritesRecords, WritesRecordsPart}

module _ {D W : Type 0} (disk : Disk D) (workers : Workers W) (options : Options) (limit : ℕ) (old new : Resources D W) where
  -- the records of the file
  abbrev pub Recorded : Type 0
  Recorded = RecordedRun (disk.seen old.disk)

  abbrev pub before : Option (List Happening)
  before = workers.history old.workers

  abbrev pub after : Option (List Happening)
  after = workers.history new.workers

  -- no image is new, and nothing was started
  abbrev pub IsIdle : Type 0
  IsIdle = (new.workers ≡ old.workers) × LeavesOnly disk.moment disk.since old.disk new.disk (disk.images old.disk)

  -- what is read is as it was
  abbrev pub ReadsTheSame : List ℕ → Type 0
  ReadsTheSame f = disk.seen new.disk ≡ Some f

  -- where the disk tells its content, the file rests with its records and these
  abbrev pub RestsWithMore : Recorded → List (List ℕ) → Type 0
  RestsWithMore r texts =
      Told (disk.seen old.disk) (λ f. Rests (r.payloads ++ texts) (disk.seen new.disk) (disk.images new.disk))

  -- each image since then is one from before, or has the records and then some first ones of these
  abbrev pub LeavesMore : Recorded → List (List ℕ) → Type 0
  LeavesMore r texts = Told (disk.seen old.disk) (λ f. LeavesOnly disk.moment disk.since old.disk new.disk
      (λ c. disk.images old.disk c ⊎ HasFront r.payloads texts c))

  -- what each answer says of the course of the call, of the ledger, and of the output, which was `written` and is `now`;
  -- `Unwritten` says that it is as it was
  abbrev pub EndsRecorded : Option (List ℕ) → Option (List ℕ) → Type 0 → Status → Type 0
  EndsRecorded written now Unwritten = EndsAs (record {
    -- nothing is left to do; the listing that the records tell was written
    done = λ rows lines. (r : Recorded) × (texts : List (List ℕ))
        × Finishes (state_at options r) before after texts × RestsWithMore r texts
        × Told (disk.seen old.disk) (λ f. WritesRecords r.search (r.payloads ++ texts) written now rows lines);
    -- so many losses and strays came; what was accepted is kept
    lost = λ lost strays. Unwritten × (r : Recorded) × (texts : List (List ℕ))
        × GivesUp (state_at options r) lost strays before after texts × RestsWithMore r texts;
    -- of a pivot that is asked for when the lines are prepared, and then nothing was started; or a reply says so
    overflow = λ o. Unwritten × (r : Recorded)
        × ((IsDue r.search.polyhedron o (IsAskedBefore r.search.polyhedron o) × (new.workers ≡ old.workers)
        × Told (disk.seen old.disk) ReadsTheSame)
        ⊎ ((texts : List (List ℕ)) × EndsBy (state_at options r) o before after texts × RestsWithMore r texts));
    -- the equations of the recorded polyhedron have no common point, and nothing was started
    infeasible = Unwritten × (new.workers ≡ old.workers) × (r : Recorded)
        × (AreConsistent r.search.polyhedron → ⊥) × Told (disk.seen old.disk) ReadsTheSame;
    -- the file is empty or its first gate is closed, and nothing was started
    no_run = Unwritten × (new.workers ≡ old.workers)
        × Told (disk.seen old.disk) (λ f. HasNoRun f × ReadsTheSame f);
    -- this is no answer of `resume`
    has_run = ⊥;
    -- the first record that breaks the ledger text, and nothing was started
    bad_ledger = λ place. Told (disk.seen old.disk)
        (λ f. IsBadLedger place f × ReadsTheSame f × Unwritten × (new.workers ≡ old.workers));
    -- the next record would pass the limit
    ledger_limit = λ need most. Unwritten × (r : Recorded) × (texts : List (List ℕ))
        × LeadsSomewhere (state_at options r) before after texts
        × Told (disk.seen old.disk) (λ f. IsRefusedBy (new_ledger limit) (r.payloads ++ texts) need most);
  })

  -- The run goes on from the records of the file, under any workers, honest or not. `goes`: whatever the answer, nothing was
  -- started and no image is new; or the starts and collects are steps of the machine from the records on. `prints`: nothing
  -- was written, or nothing was left to do, and first bytes of what the records list were.
  pub record GoesOn (written now : Option (List ℕ)) (Unwritten : Type 0) (answer : Status) : Type 0 where
    pub goes : IsIdle ⊎ ((r : Recorded) × (texts : List (List ℕ)) × AreConsistent r.search.polyhedron
        × LeadsSomewhere (state_at options r) before after texts × LeavesMore r texts)
    pub prints : Unwritten ⊎ ((r : Recorded) × (texts : List (List ℕ)) × Finishes (state_at options r) before after texts
        × RestsWithMore r texts × Told (disk.seen old.disk) (λ f. WritesRecordsPart r.search (r.payloads ++ texts) written now))
    pub ends : EndsRecorded written now Unwritten answer
    -- where no key waits nothing was started
    pub idle : Told (disk.seen old.disk) (λ f. (r : Recorded) → (state_at options r).run.keys.waiting ≡ [] →
        new.workers ≡ old.workers)
    -- honest workers stay honest
    pub honest : workers.honest old.workers → workers.honest new.workers

  -- The answer of `resume`, where the output was `written` and is `now`; so many writes had failed, and have.
  pub record AnswersResume (written now : Option (List ℕ)) (faults faults' : ℕ) (Unwritten : Type 0) (answer : Status) :
      Type 0 where
    -- THE HEADLINE, where each image with a run has legal records that begin with some, at least one, and the workers are
    -- trusted. Done: the polyhedron that these tell has a point, and its listing was written, of so many rows and lines,
    -- each row once
    pub lists : (records : List (List ℕ)) → 0 < length records → AllGoOnFrom records (disk.images old.disk) →
        AreTrusted workers old.workers new.workers → (rows lines : ℕ) → answer ≡ Done rows lines →
        Told (disk.seen old.disk) (λ f. TellsOf (WritesWhole written now rows lines) records)
    -- whatever the answer, wherever a crash comes: `resume` may go on
    pub leaves : (records : List (List ℕ)) → 0 < length records → AllGoOnFrom records (disk.images old.disk) →
        AreTrusted workers old.workers new.workers → Told (disk.seen old.disk) (λ f.
        LeavesOnly disk.moment disk.since old.disk new.disk (λ c. disk.images old.disk c ⊎ GoesOnFrom records c))
    -- whatever the answer: nothing was written, or the beginning of the listing
    pub part : (records : List (List ℕ)) → 0 < length records → AllGoOnFrom records (disk.images old.disk) →
        AreTrusted workers old.workers new.workers →
        Unwritten ⊎ Told (disk.seen old.disk) (λ f. TellsOf (WritesPart written now) records)
    -- an overflow: of the polyhedron that these tell a product passes
    pub overflow : (records : List (List ℕ)) → 0 < length records → AllGoOnFrom records (disk.images old.disk) →
        AreTrusted workers old.workers new.workers → (o : Passed) → answer ≡ Overflow o →
        Told (disk.seen old.disk) (λ f. TellsOf (λ p. Passes p o) records)
    -- whatever the workers gave: no image since then is a bad ledger that was not there before
    pub texts : Told (disk.seen old.disk) (λ f. LeavesOnly disk.moment disk.since old.disk new.disk
        (λ c. disk.images old.disk c ⊎ IsLedgerFile c))
    -- where a run is there, no product of the polyhedron that these tell passes, each attempt is answered in full and nothing
    -- fails: the call comes to its end
    pub complete : (records : List (List ℕ)) → AllGoOnFrom records (disk.images old.disk) →
        Knows (disk.seen old.disk) IsOpen → TellsOf PassesNowhere records →
        TellsFullAnswers (workers.history old.workers) (workers.history new.workers) → ¬ (Rose faults faults') →
        ¬ (Rose (disk.faults old.disk) (disk.faults new.disk)) → ComesToItsEnd answer
    pub comes : GoesOn written now Unwritten answer
    -- a write failed exactly where the answer says so, a call of the disk nowhere else
    pub writes : RoseAt WriteFault answer faults faults'
    pub disk_calls : DiskRose answer (disk.faults old.disk) (disk.faults new.disk)
