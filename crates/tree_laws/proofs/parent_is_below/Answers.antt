use Rattle.tree_laws.proofs.Falls.{parent_is_below}
use Rattle.tree_laws.proofs.parent_is_below.Goals as goal

pub returns : goal.returns
returns c = parent_is_below
