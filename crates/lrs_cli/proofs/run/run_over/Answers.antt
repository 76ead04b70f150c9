use Rattle.std.proofs.Common.{◌∙◌, ap}
use Rattle.lrs_cli.proofs.RunThrough.{through_from}
use Rattle.lrs_cli.proofs.run.run_over.Goals as goal

pub returns-clause-runs : goal.returns-clause-runs
returns-clause-runs g c =
    through_from g.D.Disk g.W.Workers _ _ _ _ _ _ _ _ _ _ _ _ _ _ _ _ _ _ (rw c.requires.base at c.finish-out.ensures.part) _ _ c.finish-out.result.1
    c.new-sink.ensures.told (ap g.O.Sink.faults c.new-sink.ensures.inner) c.run_file-status.ensures.runs c.ended.ensures.ok c.ended.ensures.err c.finish-out.ensures.whole
    c.finish-out.ensures.cause
    (λ u.
    let idle = c.finish-out.ensures.idle (ap (λ s. s.held) u ∙ c.new-sink.ensures.held) in
    (idle.0 ∙ ap (λ s. s.inner) u ∙ c.new-sink.ensures.inner, idle.1))
