use Rattle.search_laws.proofs.GivenRoots.{given_feasible}
use Rattle.search_laws.proofs.given_root_is_feasible.Goals as goal

pub returns : goal.returns
returns c = λ space start root none g. given_feasible space start none root g
