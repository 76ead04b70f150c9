-- Words that `run`, `resume` and `status` share: what they work with, whom they trust, and what they leave and write.
use Rattle.std.specs.Prelude.{◌≡◌, ◌≤◌, ◌++◌, ◌∷◌, ⊤, ℕ, List, Option, None, Some}
use Rattle.std.specs.Io.KnownBytes.{Appends}
use Rattle.poly_io.specs.Causes.{Rose}
use Rattle.poly_io.specs.Written.{AppendsPart}
use Rattle.poly_model.specs.declared.overflow.Overflow.{Overflow as Passed}
use Rattle.poly_model.specs.Systems.{Polyhedron}
use Rattle.work_core.specs.Searches.{Search}
use Rattle.disk_core.specs.Images.{Images}
use Rattle.job_ledger.specs.Records.{IsOpen, Records}
use Rattle.job_text.specs.declared.reply.Reply.{Reply}
use Rattle.job_text.specs.FirstPayloads.{IsFirstPayload}
use Rattle.job_text.specs.Rule.{IsReplyFor}
use Rattle.run_state.specs.Legal.{IsLegal}
use Rattle.run_state.specs.Payloads.{IsLedgerText}
use Rattle.workers_io.specs.declared.workers.Workers.{Ghosts as Workers}
use Rattle.run_ledger.specs.Printing.{IsCountedRunListing, IsRunListing}
use Rattle.lrs_cli.specs.declared.status.Status.{Status}
use Rattle.lrs_cli.specs.declared.status.Status.TheVariants.{Done, Infeasible, Overflow, WriteFault, DiskFault, Lost, NoRun, HasRun, BadLedger, LedgerLimit, OutOfMemory}

-- the disk of a ledger, and workers, at a moment
pub record Resources (D W : Type 0) : Type 0 where
  pub disk : D
  pub workers : W

abbrev pub resources : {D W : Type 0} → D → W → Resources D W
resources disk workers = record { disk = disk; workers = workers }

-- a count of faults never falls, rose at this answer, and stands still at every other
pub record RoseAt (fault answer : Status) (before now : ℕ) : Type 0 where
  pub later : before ≤ now
  pub failed : answer ≡ fault → Rose before now
  pub same : ¬ (answer ≡ fault) → now ≡ before

-- the same of the disk, where a write fault that comes at the end may hide one of the disk
pub record DiskRose (answer : Status) (before now : ℕ) : Type 0 where
  pub later : before ≤ now
  pub failed : answer ≡ DiskFault → Rose before now
  pub same : ¬ (answer ≡ DiskFault) → ¬ (answer ≡ WriteFault) → now ≡ before

-- ---- whom a call trusts
abbrev pub IsTold : {A : Type 0} → Option A → Type 0
IsTold None = ⊥
IsTold (Some a) = ⊤

-- workers that were honest when the call began, allow replies of a job alone, and tell their history to its end
pub record AreTrusted {W : Type 0} (workers : Workers W) (before after : W) : Type 0 where
  pub honest : workers.honest before
  pub allow : (text reply : List ℕ) → workers.allows text reply → IsReplyFor text reply
  pub told : IsTold (workers.history after)

-- ---- what a call leaves
-- the file has legal records that begin with these
pub record GoesOnFrom (records : List (List ℕ)) (file : List ℕ) : Type 0 where
  pub more : List (List ℕ)
  pub has : Records (records ++ more) file
  pub legal : IsLegal (records ++ more)

-- each image with a run has legal records that begin with these
abbrev pub AllGoOnFrom : List (List ℕ) → Images → Type 0
AllGoOnFrom records images = (file : List ℕ) → images file → IsOpen file → GoesOnFrom records file

-- the first of these records tells a polyhedron, and it has P
pub record TellsOf (P : Polyhedron → Type 0) (records : List (List ℕ)) : Type 0 where
  pub search : Search
  pub first : List ℕ
  pub rest : List (List ℕ)
  pub split : records ≡ first ∷ rest
  pub is_first : IsFirstPayload search first
  pub holds : P search.polyhedron

-- ---- what a call writes
-- these records are a ledger text, and what is known of the output grew by the lines of the file and the recorded rows, so
-- many of each
pub record WritesRecords (s : Search) (records : List (List ℕ)) (old new : Option (List ℕ)) (rows lines : ℕ) : Type 0 where
  pub replies : List Reply
  pub is_text : IsLedgerText s replies records
  pub text : List ℕ
  pub counted : IsCountedRunListing s replies text (record { rows = rows; lines = lines })
  pub written : Appends old new text

-- so it grew by first bytes of them
pub record WritesRecordsPart (s : Search) (records : List (List ℕ)) (old new : Option (List ℕ)) : Type 0 where
  pub replies : List Reply
  pub is_text : IsLedgerText s replies records
  pub text : List ℕ
  pub is_listing : IsRunListing s replies text
  pub written : AppendsPart old new text

-- ---- how a call ends
-- what each answer of a call in a ledger says
pub record LedgerEnds : Type 1 where
  pub done : ℕ → ℕ → Type 0
  pub lost : ℕ → ℕ → Type 0
  pub overflow : Passed → Type 0
  pub infeasible : Type 0
  pub no_run : Type 0
  pub has_run : Type 0
  pub bad_ledger : ℕ → Type 0
  pub ledger_limit : ℕ → ℕ → Type 0

-- what this one says: at a fault and at want of memory no more than that, and the others are no answers of such a call
abbrev pub EndsAs : LedgerEnds → Status → Type 0
EndsAs ends (Done rows lines) = ends.done rows lines
EndsAs ends (Lost lost strays) = ends.lost lost strays
EndsAs ends (Overflow o) = ends.overflow o
EndsAs ends Infeasible = ends.infeasible
EndsAs ends NoRun = ends.no_run
EndsAs ends HasRun = ends.has_run
EndsAs ends (BadLedger place) = ends.bad_ledger place
EndsAs ends (LedgerLimit need most) = ends.ledger_limit need most
EndsAs ends DiskFault = ⊤
EndsAs ends WriteFault = ⊤
EndsAs ends OutOfMemory = ⊤
EndsAs ends _ = ⊥

-- ---- how a call ends where nothing is in its way
-- at its end, or for want of room in the ledger or of memory
abbrev pub ComesToItsEnd : Status → Type 0
ComesToItsEnd (Done rows lines) = Unit {0}
ComesToItsEnd (LedgerLimit need most) = Unit {0}
ComesToItsEnd OutOfMemory = Unit {0}
ComesToItsEnd _ = ⊥
