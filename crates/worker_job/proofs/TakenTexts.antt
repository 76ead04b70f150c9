-- What was answered to the bytes that were taken from a source.
use Rattle.std.specs.Prelude.{IfOk, OnOk}
use Rattle.std.proofs.Common.{◌≡◌, ◌⊎◌, ◌≤◌, ◌+◌, inl, inr, ℕ, List, length, arith, subst, Option, Result, Ok, Err}
use Rattle.std.specs.Io.KnownBytes.{Consumes, IsAtEnd}
use Rattle.poly_model.specs.declared.listed.Count.{Count}
use Rattle.work_core.specs.declared.stops.JobStop.{JobStop}
use Rattle.job_text.specs.declared.job.Job.{Job}
use Rattle.job_text.specs.declared.reply.Tail.TheVariants.{End}
use Rattle.job_text.specs.Jobs.{IsJobText}
use Rattle.job_text.specs.Limits.{most_job_bytes}
use Rattle.job_text.proofs.LengthLemmas.{job_is_short}
use Rattle.worker_job.specs.Runs.{Replies, TakesText}

-- `text` was taken, and `answered` is what an answer speaks of
module _ (old new : Option (List ℕ)) (text answered : List ℕ) (same : answered ≡ text) (taken : Consumes old new text)
    (within : length text ≤ most_job_bytes + 1) (enough : IsAtEnd new ⊎ (length text ≡ most_job_bytes + 1)) where
  pub takes : (P : List ℕ → Type 0) → P answered → TakesText old new P
  takes P h = record { text = text; taken = taken; within = within; enough = enough; holds = subst P same h }

  -- a job is read to its end
  at_end : (job : Job) → IsJobText job text → IsAtEnd new
  at_end job is = elim enough [
    | inl e ↦ e
    | inr long ↦ let short = job_is_short job text is in let never : ⊥ = omega (arith, short, long) in absurd never
  ]

  module _ (before after : Option (List ℕ)) where
    abbrev IsAnswered : Count → Type 0
    IsAnswered count = Replies before after (End count) answered

    pub ended : (r : Result Count JobStop) → IfOk r IsAnswered → OnOk r (IsAtEnd new)
    ended (Ok count) h = at_end h.job (subst (IsJobText h.job) same h.is_text)
    ended (Err stop) h = tt

    pub replied : (r : Result Count JobStop) → IfOk r IsAnswered →
        IfOk r (λ count. TakesText old new (Replies before after (End count)))
    replied (Ok count) h = takes (Replies before after (End count)) h
    replied (Err stop) h = tt
