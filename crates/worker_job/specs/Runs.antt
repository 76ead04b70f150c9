-- What is answered to a job text.
use Rattle.std.specs.Prelude.{◌≡◌, ◌⊎◌, ℕ, ◌+◌, ◌≤◌, List, Option, length}
use Rattle.std.specs.Io.KnownBytes.{Consumes, IsAtEnd}
use Rattle.job_text.specs.declared.job.Job.{Job}
use Rattle.job_text.specs.declared.reply.Tail.{Tail}
use Rattle.job_text.specs.Jobs.{IsBadText, IsJobText}
use Rattle.job_text.specs.Limits.{most_job_bytes}
use Rattle.worker_job.specs.Replies.{IsBadStart, RepliesWith, BeginsReply}

-- what is wrong with a text: first its lines and its file, then its root, then its key
abbrev pub IsBadJob : List ℕ → ℕ → Type 0
IsBadJob text place = IsBadText text place ⊎ ((job : Job) × IsJobText job text × IsBadStart job place)

-- the text is a job, and a whole reply of it was written, which ends so
pub record Replies (old new : Option (List ℕ)) (tail : Tail) (text : List ℕ) : Type 0 where
  pub job : Job
  pub is_text : IsJobText job text
  pub reply : RepliesWith job old new tail

-- the text is a job, and the beginning of a reply of it was written
pub record RepliesInPart (old new : Option (List ℕ)) (text : List ℕ) : Type 0 where
  pub job : Job
  pub is_text : IsJobText job text
  pub reply : BeginsReply job old new

-- bytes were taken to the end of the source, or one more than a job text may have, and have P
pub record TakesText (old new : Option (List ℕ)) (P : List ℕ → Type 0) : Type 0 where
  pub text : List ℕ
  pub taken : Consumes old new text
  pub within : length text ≤ most_job_bytes + 1
  pub enough : IsAtEnd new ⊎ (length text ≡ most_job_bytes + 1)
  pub holds : P text
