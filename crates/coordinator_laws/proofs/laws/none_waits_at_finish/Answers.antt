use Rattle.coordinator_laws.proofs.EndLemmas.{none_waits_at_finish}
use Rattle.coordinator_laws.proofs.laws.none_waits_at_finish.Goals as goal

pub returns : goal.returns
returns c = none_waits_at_finish
