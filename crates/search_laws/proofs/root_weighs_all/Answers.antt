use Rattle.search_laws.proofs.Weights.{root_weighs_all}
use Rattle.search_laws.proofs.root_weighs_all.Goals as goal

pub returns : goal.returns
returns c = root_weighs_all
