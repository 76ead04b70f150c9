-- How a job ends that was read: which reply of it was written, or what is wrong with it.
use Rattle.std.specs.Prelude.{◌≡◌, ◌⊎◌, ⊤, ℕ, ◌≤◌, List, Option, Result, MatchResult, length}
use Rattle.std.specs.Io.KnownBytes.{Appends}
use Rattle.poly_io.specs.Written.{AppendsPart}
use Rattle.poly_model.specs.declared.kind.WorkKind.{WorkKind}
use Rattle.poly_model.specs.declared.listed.Count.{Count}
use Rattle.poly_model.specs.Labels.{IsRow}
use Rattle.poly_model.specs.Limits.{most_columns}
use Rattle.poly_model.specs.Systems.{System, cone_of}
use Rattle.work_core.specs.declared.stops.JobStop.{JobStop}
use Rattle.work_core.specs.declared.stops.JobStop.TheVariants.{BadJob, Overflow as Overflowed, ReadFault, WriteFault, Memory as Starved}
use Rattle.work_core.specs.Meanings.{Meaning}
use Rattle.work_core.specs.Outcomes.{IsOutcome}
use Rattle.work_core.specs.Searches.{meaning_of, MayBegin}
use Rattle.job_text.specs.declared.job.Job.{Job}
use Rattle.job_text.specs.declared.reply.Reply.{Reply}
use Rattle.job_text.specs.declared.reply.Tail.{Tail}
use Rattle.job_text.specs.declared.reply.Tail.TheVariants.{End, Overflow, Memory}
use Rattle.job_text.specs.Jobs.{HasHeadText}
use Rattle.job_text.specs.Rule.{search_of, IsReply}
use Rattle.worker_job.specs.Due.{IsDueInJob}

-- the job's key is one of its work
abbrev pub HasItsKey : Job → Type 0
HasItsKey job = Meaning.is_key (meaning_of (search_of job)) job.head.key

-- what is wrong with a job: a search may not begin at its root (2); it may, but the key is none of the work (3)
abbrev pub IsBadStart : Job → ℕ → Type 0
IsBadStart job place =
    ((place ≡ 2) × (MayBegin (search_of job) → ⊥)) ⊎ ((place ≡ 3) × MayBegin (search_of job) × (HasItsKey job → ⊥))

-- a reply may end so: in `end` where a search may begin at the root and the key is one of the work, in an overflow of a pivot
-- that its work may ask for; in want of memory any may
abbrev pub MayEnd : Tail → Job → Type 0
MayEnd (End count) job = MayBegin (search_of job) × HasItsKey job
MayEnd (Overflow o) job = IsDueInJob job o
MayEnd Memory job = ⊤

-- a reply that ends in `end` tells the outcome of the job: what its run visits, shows and gives back
abbrev pub TellsOutcome : Job → Reply → Tail → Type 0
TellsOutcome job reply (End count) =
    IsOutcome (meaning_of (search_of job)) job.head.key job.head.budget reply.rows reply.keys count.bases
TellsOutcome job reply (Overflow o) = ⊤
TellsOutcome job reply Memory = ⊤

-- a whole reply of the job was written, which ends so
pub record RepliesWith (job : Job) (old new : Option (List ℕ)) (tail : Tail) : Type 0 where
  pub may_end : MayEnd tail job
  pub text : List ℕ
  pub obeys : IsReply job text
  pub ends : obeys.reply.tail ≡ tail
  pub outcome : TellsOutcome job obeys.reply tail
  pub written : Appends old new text

-- the beginning of one was written
pub record BeginsReply (job : Job) (old new : Option (List ℕ)) : Type 0 where
  pub text : List ℕ
  pub obeys : IsReply job text
  pub written : AppendsPart old new text

-- the job stopped so. `Unwritten` says that nothing was written
abbrev pub StopsJob : Job → Option (List ℕ) → Option (List ℕ) → Type 0 → JobStop → Type 0
StopsJob job old new Unwritten (BadJob place) = IsBadStart job place × Unwritten
StopsJob job old new Unwritten (Overflowed o) = RepliesWith job old new (Overflow o)
StopsJob job old new Unwritten ReadFault = ⊥
StopsJob job old new Unwritten WriteFault = BeginsReply job old new
StopsJob job old new Unwritten Starved = RepliesWith job old new Memory

-- the job ended or stopped so
abbrev pub EndsJob : Job → Option (List ℕ) → Option (List ℕ) → Type 0 → Result Count JobStop → Type 0
EndsJob job old new Unwritten result =
    MatchResult result (λ count. RepliesWith job old new (End count)) (λ stop. StopsJob job old new Unwritten stop)

-- the lines of a job's reply have texts: its head has one, and its cone has no more rows and columns than a file's may have
pub record IsOfAFile (job : Job) : Type 0 where
  pub head : HasHeadText job.head
  pub few : IsRow (length (cone_of job.poly).rows)
  pub narrow : job.poly.n ≤ most_columns

-- a work of this kind may reply to the job: the job names it, this is the job's cone, and the lines of the reply have texts
pub record MayReplyBy (kind : WorkKind) (job : Job) (sys : System) : Type 0 where
  pub work : job.head.work ≡ kind
  pub cone : sys ≡ cone_of job.poly
  pub file : IsOfAFile job
