use Rattle.search_laws.proofs.GivenRoots.{given_one}
use Rattle.search_laws.proofs.given_root_is_one.Goals as goal

pub returns : goal.returns
returns c = λ space start root other none distinct a b. given_one space start none distinct root other a b
