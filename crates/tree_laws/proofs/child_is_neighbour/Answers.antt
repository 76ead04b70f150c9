use Rattle.tree_laws.proofs.Back.{child_is_neighbour}
use Rattle.tree_laws.proofs.child_is_neighbour.Goals as goal

pub returns : goal.returns
returns c = child_is_neighbour
