use Rattle.search_laws.proofs.Decided.{gives_where_met}
use Rattle.search_laws.proofs.gives_root_where_met.Goals as goal

pub returns : goal.returns
returns c = λ space start t none d. gives_where_met space start none t d
