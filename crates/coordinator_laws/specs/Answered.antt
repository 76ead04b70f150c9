-- Attempts that are answered in full: each start succeeds, and each attempt gives its whole reply, once.
use Rattle.std.specs.Prelude.{◌≡◌, ◌<◌, ◌^◌, ◌==◌, not, ℕ, List, [], ◌∷◌, length, Option, Some, None}
use Rattle.std.specs.List.{filter}
use Rattle.job_text.specs.declared.job.Job.{Job}
use Rattle.job_text.specs.declared.reply.Tail.{Tail}
use Rattle.job_text.specs.declared.reply.Tail.TheVariants.{End, Overflow, Memory}
use Rattle.job_text.specs.Jobs.{IsJobText}
use Rattle.job_text.specs.Rule.{IsReply}
use Rattle.run_state.specs.Legal.{AreLegal}
use Rattle.workers_io.specs.History.{Happening, StartedTexts, started, refused, replied, broken, last_text}
use Rattle.coordinator_core.specs.Machine.{AreOptions, State}
use Rattle.coordinator_laws.specs.Courses.{Course, IsCourse}

-- a last line other than that of a want of memory
abbrev pub HadMemory : Tail → Type 0
HadMemory (End count) = Unit {0}
HadMemory (Overflow o) = Unit {0}
HadMemory Memory = ⊥

-- the bytes, fewer than 2^64, are a whole reply which the job may be given, and memory was not wanting
pub record IsFullReply (job : Job) (bytes : List ℕ) : Type 0 where
  pub reply : IsReply job bytes
  pub memory : HadMemory reply.reply.tail
  pub short : length bytes < 2 ^ 64

-- one of the job that a text is; where there is no text there is none
abbrev pub IsFullReplyTo : Option (List ℕ) → List ℕ → Type 0
IsFullReplyTo None bytes = ⊥
IsFullReplyTo (Some text) bytes = (job : Job) → IsJobText job text → IsFullReply job bytes

-- the starts of other attempts
abbrev pub starts_without : ℕ → StartedTexts → StartedTexts
starts_without attempt starts = filter (λ s. not (attempt == s.0)) starts

-- where these were started and not yet collected: no start is refused, no attempt breaks, and each that is collected gives
-- one such reply to its text, and no second
abbrev pub AreAnswered : StartedTexts → List Happening → Type 0
AreAnswered starts [] = Unit {0}
AreAnswered starts (started a text ∷ more) = AreAnswered ((a, text) ∷ starts) more
AreAnswered starts (refused a text ∷ more) = ⊥
AreAnswered starts (replied a bytes ∷ more) =
    IsFullReplyTo (last_text a starts) bytes × AreAnswered (starts_without a starts) more
AreAnswered starts (broken a ∷ more) = ⊥

-- no loss and no stray came
pub record LosesNothing (s : State) : Type 0 where
  pub losses : s.losses ≡ 0
  pub strays : s.strays ≡ 0

-- a call that goes on from legal records loses nothing then
abbrev pub AnsweredLoseNothing : Type 0
AnsweredLoseNothing =
    (c : Course) (payloads : List (List ℕ)) → AreOptions c.options → IsCourse c → AreLegal c.search c.replies payloads →
    AreAnswered [] c.happenings → LosesNothing c.last
