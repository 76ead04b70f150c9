-- What was written for a text is a reply that it may be given, or the beginning of one.
use Rattle.std.proofs.Common.{ℕ, List, Option, Result, Ok, Err, subst}
use Rattle.std.specs.Prelude.{IfOk, OnOk}
use Rattle.poly_model.specs.declared.listed.Count.{Count}
use Rattle.work_core.specs.declared.stops.JobStop.{JobStop}
use Rattle.work_core.specs.Calls.{WritesOneOf, WritesPartOfOneOf}
use Rattle.job_text.specs.declared.job.Job.{Job}
use Rattle.job_text.specs.declared.reply.Tail.{Tail}
use Rattle.job_text.specs.declared.reply.Tail.TheVariants.{End}
use Rattle.job_text.specs.Jobs.{IsJobText}
use Rattle.job_text.specs.Rule.{IsReply, IsReplyFor}
use Rattle.job_text.proofs.JobLaws.{one_job}
use Rattle.worker_job.specs.Runs.{Replies, RepliesInPart}

module _ (text : List ℕ) (old new : Option (List ℕ)) where
  allowed : (reply : List ℕ) (job : Job) → IsJobText job text → IsReply job reply → IsReplyFor text reply
  allowed reply job is obeys other o = subst (λ j. IsReply j reply) (one_job job other text is o) obeys

  pub whole : (tail : Tail) → Replies old new tail text → WritesOneOf (IsReplyFor text) old new
  whole tail h = (h.reply.text, allowed h.reply.text h.job h.is_text h.reply.obeys, h.reply.written)

  pub part : RepliesInPart old new text → WritesPartOfOneOf (IsReplyFor text) old new
  part h = (h.reply.text, allowed h.reply.text h.job h.is_text h.reply.obeys, h.reply.written)

  pub whole_of_result : (result : Result Count JobStop) → IfOk result (λ count. Replies old new (End count) text) →
      OnOk result (WritesOneOf (IsReplyFor text) old new)
  whole_of_result (Ok count) h = whole (End count) h
  whole_of_result (Err stop) h = tt
