use Rattle.search_laws.proofs.Decided.{phase_one_decides}
use Rattle.search_laws.proofs.phase_one_decides.Goals as goal

pub returns : goal.returns
returns c = λ space start t none d. phase_one_decides space start none t d
