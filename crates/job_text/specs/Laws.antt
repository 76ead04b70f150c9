-- What follows from the definitions of jobs and replies.
use Rattle.std.specs.Prelude.{◌≡◌, ◌⊎◌, ℕ, ◌<◌, ◌≤◌, ◌^◌, List, [], ◌++◌, length}
use Rattle.poly_model.specs.declared.overflow.Overflow.{Overflow}
use Rattle.poly_model.specs.Keys.{IsKey}
use Rattle.poly_model.specs.Labels.{IsRow}
use Rattle.poly_model.specs.Limits.{most_columns}
use Rattle.poly_model.specs.Overflows.{Passes}
use Rattle.poly_model.specs.Systems.{Polyhedron, cone_of}
use Rattle.work_core.specs.Searches.{Search}
use Rattle.job_text.specs.declared.job.Job.{Job}
use Rattle.job_text.specs.declared.reply.Reply.{Reply}
use Rattle.job_text.specs.FirstPayloads.{IsFirstPayload}
use Rattle.job_text.specs.Jobs.{IsJobText, IsBadText}
use Rattle.job_text.specs.Limits.{most_job_bytes}
use Rattle.job_text.specs.Overflows.{HasOverflowText}
use Rattle.job_text.specs.Replies.{IsWholeReply}

-- where both texts are whole replies, nothing stands behind the first
abbrev pub EndsWhole : ℕ → List ℕ → List ℕ → Type 0
EndsWhole n text more =
    length text < 2 ^ 64 → (a b : Reply) → IsWholeReply n a text → IsWholeReply n b (text ++ more) → more ≡ []

-- two whole replies of one text, for files with rows of n numbers, are the same
abbrev pub IsOneReply : ℕ → List ℕ → Type 0
IsOneReply n text = length text < 2 ^ 64 → (a b : Reply) → IsWholeReply n a text → IsWholeReply n b text → a ≡ b

-- two jobs of one text are the same
abbrev pub IsOneJob : List ℕ → Type 0
IsOneJob text = (a b : Job) → IsJobText a text → IsJobText b text → a ≡ b

-- two searches of one first payload are the same
abbrev pub IsOneFirstPayload : List ℕ → Type 0
IsOneFirstPayload payload = (s t : Search) → IsFirstPayload s payload → IsFirstPayload t payload → s ≡ t

-- a text is a job, or is bad at a place: never both, and at one place only
pub record IsJobOrBad (text : List ℕ) : Type 0 where
  pub some : ((job : Job) × IsJobText job text) ⊎ ((place : ℕ) × IsBadText text place)
  pub not_both : (job : Job) (place : ℕ) → IsJobText job text → IsBadText text place → ⊥
  pub one_place : (a b : ℕ) → IsBadText text a → IsBadText text b → a ≡ b

-- where the text is a job's, it has no more bytes than a job text may have
abbrev pub IsShortJob : List ℕ → Type 0
IsShortJob text = (job : Job) → IsJobText job text → length text ≤ most_job_bytes

-- an overflow of a polyhedron that a file may have has a text that is read again
abbrev pub HasTextOfOverflows : Polyhedron → Type 0
HasTextOfOverflows p =
    IsRow (length (cone_of p).rows) → p.n ≤ most_columns → (o : Overflow) → IsKey o.key → Passes p o → HasOverflowText o
