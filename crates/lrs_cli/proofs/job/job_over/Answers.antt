use Rattle.std.proofs.Common.{◌∙◌, ap}
use Rattle.lrs_cli.proofs.JobLemmas.{through_from}
use Rattle.lrs_cli.proofs.job.job_over.Goals as goal

pub returns-clause-answers : goal.returns-clause-answers
returns-clause-answers g c =
    through_from _ _ _ _ (rw c.requires at c.finish-out.ensures.part) _ _ _ _ _ _ _ _ _ _ _ _ c.finish-out.result.1
    c.new-sink.ensures.told (ap g.O.Sink.faults c.new-sink.ensures.inner) c.answer_job-status.ensures.answers
    c.ended.ensures.ok c.ended.ensures.err c.finish-out.ensures.whole c.finish-out.ensures.cause
    c.answer_job-status.ensures.later
    (λ u.
    let idle = c.finish-out.ensures.idle (ap (λ s. s.held) u ∙ c.new-sink.ensures.held) in
    (idle.0 ∙ ap (λ s. s.inner) u ∙ c.new-sink.ensures.inner, idle.1))
