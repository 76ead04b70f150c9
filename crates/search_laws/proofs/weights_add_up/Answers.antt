use Rattle.search_laws.proofs.Weights.{has_weight}
use Rattle.search_laws.proofs.weights_add_up.Goals as goal

pub returns : goal.returns
returns c space root key home t distinct h f = has_weight space root home h distinct key (t, f)
