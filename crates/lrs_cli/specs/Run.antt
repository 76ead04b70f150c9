-- What `run` answers, and what it has then printed and left.
use Rattle.std.specs.Prelude.{◌≡◌, ◌⊎◌, ⊤, ℕ, List, [], ◌∷◌, Option, Some}
use Rattle.std.specs.Io.KnownBytes.{IsAtEnd}
use Rattle.poly_io.specs.Causes.{Rose}
use Rattle.poly_model.specs.declared.overflow.Overflow.{Overflow as Passed}
use Rattle.poly_model.specs.declared.kind.WorkKind.TheVariants.{Subtrees}
use Rattle.poly_model.specs.Due.{IsDue, IsAskedBefore, IsAskedInFirst}
use Rattle.poly_model.specs.Extreme.{IsFeasible}
use Rattle.poly_model.specs.Overflows.{Passes}
use Rattle.poly_model.specs.Systems.{Polyhedron, cone_of}
use Rattle.poly_reader.specs.Reading.{IsFileOf}
use Rattle.work_core.specs.Searches.{MayBegin, Search}
use Rattle.disk_core.specs.declared.disk.Disk.{Ghosts as Disk}
use Rattle.disk_core.specs.Contents.{Told}
use Rattle.disk_core.specs.Moments.{LeavesOnly}
use Rattle.job_text.specs.FirstPayloads.{IsFirstPayload, first_payload}
use Rattle.job_ledger.specs.Ledgers.{new_ledger}
use Rattle.job_ledger.specs.Records.{HasNoRun, IsOpen}
use Rattle.workers_io.specs.declared.workers.Workers.{Ghosts as Workers}
use Rattle.workers_io.specs.History.{Happening}
use Rattle.coordinator_core.specs.declared.options.Options.{Options}
use Rattle.coordinator_core.specs.Machine.{State}
use Rattle.coordinator.specs.Calls.{state_after}
use Rattle.coordinator.specs.Ending.{Rests}
use Rattle.coordinator.specs.Following.{EndsBy, Finishes, GivesUp, LeadsSomewhere}
use Rattle.coordinator.specs.Leaving.{HasFront, IsRefusedBy}
use Rattle.run_laws.specs.Laws.{IsLedgerFile, TellsFullAnswers}
use Rattle.lrs_cli.specs.declared.status.Status.{Status}
use Rattle.lrs_cli.specs.declared.status.Status.TheVariants.{Done, BadFile, Infeasible, Overflow, ReadFault, WriteFault, OutOfMemory}
use Rattle.lrs_cli.specs.Answers.{Describes, IsBadFile, IsInfeasibleFile, IsListed, IsPartlyListed, Knows, PassesNowhere}
use Rattle.lrs_cli.specs.Ledgers.{AreTrusted, ComesToItsEnd, DiskRose, EndsAs, GoesOnFrom, Resources, RoseAt, WritesRecords, WritesRecordsPart}
use Rattle.lrs_cli.specs.Streams.{Streams}

-- a search that a new run may do: by subtrees of a polyhedron with a point, from a root at which it may begin
pub record MaySearch (s : Search) : Type 0 where
  pub work : s.work ≡ Subtrees
  pub feasible : IsFeasible (cone_of s.polyhedron)
  pub begins : MayBegin s
  pub first : IsFirstPayload s (first_payload s)

-- a product passes, of a pivot that is asked for before a search, or in phase one
abbrev pub IsDueBeforeSearch : Polyhedron → Passed → Type 0
IsDueBeforeSearch p o = IsDue p o (IsAskedBefore p o) ⊎ IsDue p o (IsAskedInFirst p o)

-- the text is that of the polyhedron of the search
abbrev pub IsTextOf : Search → List ℕ → Type 0
IsTextOf s text = IsFileOf text s.polyhedron

-- ---- one search, in a ledger of at most so many bytes, from its first record on
module _ {D W : Type 0} (disk : Disk D) (workers : Workers W) (options : Options) (limit : ℕ) (s : Search)
    (old new : Resources D W) where
  abbrev pub start : State
  start = state_after options s []

  abbrev pub with_first : List (List ℕ) → List (List ℕ)
  with_first texts = first_payload s ∷ texts

  abbrev pub before : Option (List Happening)
  before = workers.history old.workers

  abbrev pub after : Option (List Happening)
  after = workers.history new.workers

  -- where the disk tells its content, the file rests with the first record and these
  abbrev pub RestsWithFirst : List (List ℕ) → Type 0
  RestsWithFirst texts =
      Told (disk.seen old.disk) (λ f. Rests (with_first texts) (disk.seen new.disk) (disk.images new.disk))

  -- each image since then is one from before, has no run, or has the first record and then some first ones of these
  abbrev pub LeavesFirst : List (List ℕ) → Type 0
  LeavesFirst texts = Told (disk.seen old.disk) (λ f. LeavesOnly disk.moment disk.since old.disk new.disk
      (λ c. disk.images old.disk c ⊎ (HasNoRun c ⊎ HasFront (first_payload s ∷ []) texts c)))

  -- no image is new
  abbrev pub LeavesImages : Type 0
  LeavesImages = LeavesOnly disk.moment disk.since old.disk new.disk (disk.images old.disk)

  -- what each answer says of the course of the call, of the ledger, and of the output, which was `written` and is `now`;
  -- `Unwritten` says that it is as it was
  abbrev pub EndsSearch : Option (List ℕ) → Option (List ℕ) → Type 0 → Status → Type 0
  EndsSearch written now Unwritten = EndsAs (record {
    -- nothing is left to do; the listing that the records tell was written
    done = λ rows lines. (texts : List (List ℕ)) × Finishes start before after texts × RestsWithFirst texts
        × Told (disk.seen old.disk) (λ f. HasNoRun f × WritesRecords s (with_first texts) written now rows lines);
    -- so many losses and strays came; what was accepted is kept
    lost = λ lost strays. Unwritten
        × (texts : List (List ℕ)) × GivesUp start lost strays before after texts × RestsWithFirst texts;
    -- of a pivot that is asked for when the lines are prepared, and then nothing was started; or a reply says so
    overflow = λ o. Unwritten
        × ((IsDue s.polyhedron o (IsAskedBefore s.polyhedron o) × (new.workers ≡ old.workers) × LeavesImages)
        ⊎ ((texts : List (List ℕ)) × EndsBy start o before after texts × RestsWithFirst texts));
    -- these are no answers of a search
    infeasible = ⊥;
    no_run = ⊥;
    -- the first gate is open, and nothing was changed or started
    has_run = Unwritten × (new.workers ≡ old.workers) × LeavesImages
        × Told (disk.seen old.disk) (λ f. IsOpen f × (disk.seen new.disk ≡ Some f));
    -- only over a disk that does not keep its model
    bad_ledger = λ place. Told (disk.seen old.disk) (λ f. ⊥);
    -- the next record would pass the limit
    ledger_limit = λ need most. Unwritten × (texts : List (List ℕ))
        × LeadsSomewhere start before after texts × IsRefusedBy (new_ledger limit) (with_first texts) need most;
  })

  -- The search was run. `goes`: whatever the answer, the starts and collects are steps of the machine from the first record
  -- on. `prints`: nothing was written, or nothing was left to do, and first bytes of what the records list were.
  pub record RunsSearch (written now : Option (List ℕ)) (Unwritten : Type 0) (answer : Status) : Type 0 where
    pub goes : (texts : List (List ℕ)) × LeadsSomewhere start before after texts × LeavesFirst texts
    pub prints : Unwritten ⊎ ((texts : List (List ℕ)) × Finishes start before after texts
        × RestsWithFirst texts × Told (disk.seen old.disk) (λ f. WritesRecordsPart s (with_first texts) written now))
    pub ends : EndsSearch written now Unwritten answer
    -- honest workers stay honest
    pub honest : workers.honest old.workers → workers.honest new.workers

-- ---- a polyhedron
-- no search was run of the polyhedron: it has no point, or a number passes before one is known
abbrev pub RefusesPolyhedron : Polyhedron → Status → Type 0
RefusesPolyhedron p Infeasible = IsFeasible (cone_of p) → ⊥
RefusesPolyhedron p (Overflow o) = IsDueBeforeSearch p o
RefusesPolyhedron p OutOfMemory = ⊤
RefusesPolyhedron p _ = ⊥

-- ---- a file
-- no search was run of the file with these bytes, where they are told
abbrev pub RefusesFile : Option (List ℕ) → Status → Type 0
RefusesFile left ReadFault = ⊤
RefusesFile left (BadFile f) = Told left (IsBadFile f)
RefusesFile left OutOfMemory = ⊤
RefusesFile left Infeasible = Told left IsInfeasibleFile
RefusesFile left (Overflow o) = Told left (Describes (λ p. IsDueBeforeSearch p o))
RefusesFile left _ = ⊥

-- since then each image is one from before; or there is one search of the text, and each other image has no run, or has legal
-- records that begin with the first record of that search
abbrev pub IsLeftByRun : {D : Type 0} → Disk D → D → D → List ℕ → Type 0
IsLeftByRun disk old new text = LeavesOnly disk.moment disk.since old new (disk.images old)
    ⊎ ((s : Search) × IsTextOf s text × LeavesOnly disk.moment disk.since old new
    (λ c. disk.images old c ⊎ (HasNoRun c ⊎ GoesOnFrom (first_payload s ∷ []) c)))

module _ {D W : Type 0} (disk : Disk D) (workers : Workers W) (options : Options) (limit : ℕ) (old new : Resources D W)
    (before after : Streams) (Unwritten : Type 0) where
  -- Under any workers, honest or not: the file was refused, and disk, workers and output are as they were; or the input was
  -- read to its end, and a search of its text was run.
  pub record RunsFile (answer : Status) : Type 0 where
    pub comes : (RefusesFile before.left answer × (new ≡ old) × Unwritten)
        ⊎ ((s : Search) × MaySearch s × Told before.left (IsTextOf s) × IsAtEnd after.left
        × RunsSearch disk workers options limit s old new before.written after.written Unwritten answer)
    -- a read, a write failed exactly where the answer says so, a call of the disk nowhere else
    pub reads : RoseAt ReadFault answer before.read_faults after.read_faults
    pub writes : RoseAt WriteFault answer before.write_faults after.write_faults
    pub disk_calls : DiskRose answer (disk.faults old.disk) (disk.faults new.disk)

  -- The answer of `run`. `Unwritten` says that the output is as it was.
  pub record AnswersRun (answer : Status) : Type 0 where
    -- THE HEADLINE. Done, under workers that are trusted: the text describes a polyhedron that has a point, and its listing
    -- was written, of so many rows and lines, each row once
    pub lists : (rows lines : ℕ) → answer ≡ Done rows lines → AreTrusted workers old.workers new.workers →
        Told (disk.seen old.disk) (λ f. Told before.left (IsListed before.written after.written rows lines))
    -- whatever the answer, wherever a crash comes: there is no run, or one with which `resume` goes on
    pub leaves : AreTrusted workers old.workers new.workers →
        Told (disk.seen old.disk) (λ f. Told before.left (IsLeftByRun disk old.disk new.disk))
    -- whatever the answer: nothing was written, or the beginning of the listing
    pub part : AreTrusted workers old.workers new.workers → Unwritten
        ⊎ Told (disk.seen old.disk) (λ f. Told before.left (IsPartlyListed before.written after.written))
    -- an overflow: of the polyhedron that the text describes a product passes
    pub overflow : (o : Passed) → answer ≡ Overflow o → AreTrusted workers old.workers new.workers →
        Told before.left (Describes (λ p. Passes p o))
    -- whatever the workers gave: no image since then is a bad ledger that was not there before
    pub texts : Told (disk.seen old.disk) (λ f. LeavesOnly disk.moment disk.since old.disk new.disk
        (λ c. disk.images old.disk c ⊎ (HasNoRun c ⊎ IsLedgerFile c)))
    -- of a text that describes a polyhedron of which no product passes, in a file without a run, where each attempt is
    -- answered in full and nothing fails: infeasible, or the call comes to its end
    pub complete : Knows before.left (Describes PassesNowhere) → Knows (disk.seen old.disk) HasNoRun →
        TellsFullAnswers (workers.history old.workers) (workers.history new.workers) →
        ¬ (Rose before.read_faults after.read_faults) → ¬ (Rose before.write_faults after.write_faults) →
        ¬ (Rose (disk.faults old.disk) (disk.faults new.disk)) → (answer ≡ Infeasible) ⊎ ComesToItsEnd answer
    pub runs : RunsFile answer
