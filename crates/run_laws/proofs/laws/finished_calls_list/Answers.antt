use Rattle.run_laws.proofs.RunLaws.{finished_calls_list}
use Rattle.run_laws.proofs.laws.finished_calls_list.Goals as goal

pub returns : goal.returns
returns c = finished_calls_list
