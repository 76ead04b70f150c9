use Rattle.work_core.proofs.FirstKeys.{first_key_has_all}
use Rattle.work_core.proofs.laws.first_key_has_all.Goals as goal

pub returns : goal.returns
returns c = first_key_has_all
