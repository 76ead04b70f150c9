use Rattle.run_laws.proofs.EndingLaws.{answered_overflows_pass}
use Rattle.run_laws.proofs.laws.answered_overflows_pass.Goals as goal

pub returns : goal.returns
returns c = answered_overflows_pass
