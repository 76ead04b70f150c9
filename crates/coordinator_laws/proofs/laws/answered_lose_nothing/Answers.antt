use Rattle.coordinator_laws.proofs.AnsweredLemmas.{answered_lose_nothing}
use Rattle.coordinator_laws.proofs.laws.answered_lose_nothing.Goals as goal

pub returns : goal.returns
returns c = answered_lose_nothing
