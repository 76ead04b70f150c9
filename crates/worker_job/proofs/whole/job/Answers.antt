use Rattle.std.proofs.Common.{inl, inr}
use Rattle.job_text.specs.declared.reply.Tail.TheVariants.{Overflow, Memory}
use Rattle.worker_job.specs.Runs.{IsBadJob, Replies, RepliesInPart}
use Rattle.worker_job.proofs.TakenTexts.{takes, ended, replied}
use Rattle.worker_job.proofs.whole.job.Goals as goal

pub returns-in-Ok-clause-end : goal.returns-in-Ok-clause-end
returns-in-Ok-clause-end g c =
    ended _ _ c.in-Ok.text _ c.as_slice.ensures c.in-Ok.ensures.bytes c.in-Ok.ensures.within c.in-Ok.ensures.enough _ _
    c.reply.result c.reply.ensures.done

pub returns-in-Ok-clause-done : goal.returns-in-Ok-clause-done
returns-in-Ok-clause-done g c =
    replied _ _ c.in-Ok.text _ c.as_slice.ensures c.in-Ok.ensures.bytes c.in-Ok.ensures.within c.in-Ok.ensures.enough _ _
    c.reply.result c.reply.ensures.done

pub returns-in-Ok-clause-bad : goal.returns-in-Ok-clause-bad
returns-in-Ok-clause-bad g c place e =
    let bad = c.reply.ensures.bad place e in (
      bad.1,
      takes _ _ c.in-Ok.text _ c.as_slice.ensures c.in-Ok.ensures.bytes c.in-Ok.ensures.within c.in-Ok.ensures.enough
          (λ text. IsBadJob text place) bad.0,
    )

pub returns-in-Ok-clause-overflow : goal.returns-in-Ok-clause-overflow
returns-in-Ok-clause-overflow g c o e =
    takes _ _ c.in-Ok.text _ c.as_slice.ensures c.in-Ok.ensures.bytes c.in-Ok.ensures.within c.in-Ok.ensures.enough
    (Replies _ _ (Overflow o)) (c.reply.ensures.overflow o e)

pub returns-in-Ok-clause-memory : goal.returns-in-Ok-clause-memory
returns-in-Ok-clause-memory g c e = elim (c.reply.ensures.memory e) [
  | inl u ↦ inl u
  | inr r ↦ inr (takes _ _ c.in-Ok.text _ c.as_slice.ensures c.in-Ok.ensures.bytes c.in-Ok.ensures.within c.in-Ok.ensures.enough
      (Replies _ _ Memory) r)
]

pub returns-in-Ok-clause-write : goal.returns-in-Ok-clause-write
returns-in-Ok-clause-write g c e =
    let part = c.reply.ensures.write e in (
      part.0,
      takes _ _ c.in-Ok.text _ c.as_slice.ensures c.in-Ok.ensures.bytes c.in-Ok.ensures.within c.in-Ok.ensures.enough
          (RepliesInPart _ _) part.1,
    )
