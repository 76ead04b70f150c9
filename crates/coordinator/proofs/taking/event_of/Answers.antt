use Rattle.coordinator_core.proofs.KeptLemmas.{on_err}
use Rattle.coordinator.proofs.EventLemmas.{event_there}
use Rattle.coordinator.proofs.taking.event_of.Goals as goal

pub returns-clause-there : goal.returns-clause-there
returns-clause-there c = on_err c.event_of.result (event_there c.args.core.now c.args.attempt c.args.bytes.now c.size_of.ensures)
