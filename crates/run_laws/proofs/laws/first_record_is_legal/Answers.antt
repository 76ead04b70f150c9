use Rattle.run_laws.proofs.RunLaws.{first_record_is_legal}
use Rattle.run_laws.proofs.laws.first_record_is_legal.Goals as goal

pub returns : goal.returns
returns c = first_record_is_legal
