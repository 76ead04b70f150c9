use Rattle.std.proofs.Common.{◌∙◌, ap}
use Rattle.lrs_cli.proofs.FileLemmas.{disk_rose}
use Rattle.lrs_cli.proofs.RunThrough.{disk_ended, writes_ended}
use Rattle.lrs_cli.proofs.ResumeThrough.{through_from}
use Rattle.lrs_cli.proofs.resume.resume_over.Goals as goal

pub returns-clause-goes_on : goal.returns-clause-goes_on
returns-clause-goes_on g c =
    through_from g.D.Disk g.W.Workers _ _ _ _ _ _ _ _ _ _ (rw c.requires.base at c.finish-out.ensures.part) _ _ c.finish-out.result.1 c.new-sink.ensures.told
    c.resume_attached-status.ensures.goes_on c.ended.ensures.ok c.ended.ensures.err c.finish-out.ensures.whole
    (λ u.
    let idle = c.finish-out.ensures.idle (ap (λ s. s.held) u ∙ c.new-sink.ensures.held) in
    (idle.0 ∙ ap (λ s. s.inner) u ∙ c.new-sink.ensures.inner, idle.1))

pub returns-clause-writes : goal.returns-clause-writes
returns-clause-writes g c =
    let e = c.resume_attached-status.ensures in
    let same = ap g.O.Sink.faults c.new-sink.ensures.inner in
    writes_ended c.resume_attached-status.result _ _ _ _ c.finish-out.result.1 (rw same at e.writes) c.ended.ensures.ok c.ended.ensures.err c.finish-out.ensures.cause

pub returns-clause-disk_calls : goal.returns-clause-disk_calls
returns-clause-disk_calls g c =
    let e = c.resume_attached-status.ensures in
    disk_ended c.resume_attached-status.result _ _ _ c.finish-out.result.1 (disk_rose c.resume_attached-status.result _ _ e.disk_calls) c.ended.ensures.ok c.ended.ensures.err
