use Rattle.coordinator_laws.proofs.EndLemmas.{courses_end}
use Rattle.coordinator_laws.proofs.laws.courses_end.Goals as goal

pub returns : goal.returns
returns c = courses_end
