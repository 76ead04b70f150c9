use Rattle.coordinator_laws.proofs.EndLemmas.{steps_lower}
use Rattle.coordinator_laws.proofs.laws.steps_lower.Goals as goal

pub returns : goal.returns
returns c = steps_lower
