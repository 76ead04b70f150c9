use Rattle.run_laws.proofs.EndingLaws.{answered_calls_go_on}
use Rattle.run_laws.proofs.laws.answered_calls_go_on.Goals as goal

pub returns : goal.returns
returns c = answered_calls_go_on
