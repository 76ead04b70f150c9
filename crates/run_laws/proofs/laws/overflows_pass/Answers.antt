use Rattle.run_laws.proofs.EndingLaws.{overflows_pass}
use Rattle.run_laws.proofs.laws.overflows_pass.Goals as goal

pub returns : goal.returns
returns c = overflows_pass
