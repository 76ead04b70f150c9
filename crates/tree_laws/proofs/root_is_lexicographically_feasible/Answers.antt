use Rattle.tree_laws.proofs.Roots.{root_is_feasible}
use Rattle.tree_laws.proofs.root_is_lexicographically_feasible.Goals as goal

pub returns : goal.returns
returns c = root_is_feasible
