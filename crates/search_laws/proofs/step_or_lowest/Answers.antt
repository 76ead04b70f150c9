use Rattle.search_laws.proofs.Lowered.{some_step}
use Rattle.search_laws.proofs.step_or_lowest.Goals as goal

pub returns : goal.returns
returns c = some_step
