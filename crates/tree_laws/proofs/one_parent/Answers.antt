use Rattle.tree_laws.proofs.Parents.{one_parent}
use Rattle.tree_laws.proofs.one_parent.Goals as goal

pub returns : goal.returns
returns c = one_parent
