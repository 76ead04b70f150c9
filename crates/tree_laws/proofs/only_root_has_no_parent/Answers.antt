use Rattle.tree_laws.proofs.Parents.{root_or_child}
use Rattle.tree_laws.proofs.only_root_has_no_parent.Goals as goal

pub returns : goal.returns
returns c = root_or_child
