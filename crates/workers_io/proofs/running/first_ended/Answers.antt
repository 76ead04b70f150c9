use Rattle.std.proofs.Common.{◌∙◌}
use Rattle.workers_io.proofs.RunLemmas.{same_numbers}
use Rattle.workers_io.proofs.running.first_ended.Goals as goal

pub returns-then-has_ended-clause-same : goal.returns-then-has_ended-clause-same
returns-then-has_ended-clause-same g c =
    same_numbers c.loop-i.running (λ r. r.attempt) c.loop-i.i c.has_ended.new.self c.index-running-i.result c.has_ended.ensures ∙ c.loop-i.invariant

pub loop-i-preserved : goal.loop-i-preserved
loop-i-preserved g c =
    same_numbers c.loop-i.running (λ r. r.attempt) c.loop-i.i c.has_ended.new.self c.index-running-i.result c.has_ended.ensures ∙ c.loop-i.invariant
