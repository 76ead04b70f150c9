use Rattle.tree_laws.proofs.NotZero.{list_is_nonzero}
use Rattle.tree_laws.proofs.lists_are_not_zero.Goals as goal

pub returns : goal.returns
returns c space root key s t h d = list_is_nonzero space root key s t h d
