use Rattle.tree_laws.proofs.Back.{neighbour_back}
use Rattle.tree_laws.proofs.neighbours_are_mutual.Goals as goal

pub returns : goal.returns
returns c = neighbour_back
