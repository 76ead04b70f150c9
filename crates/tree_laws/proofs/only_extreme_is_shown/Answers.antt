use Rattle.tree_laws.proofs.ShownOnce.{only_extreme}
use Rattle.tree_laws.proofs.only_extreme_is_shown.Goals as goal

pub returns : goal.returns
returns c space root key t p y f s = only_extreme space root key t p y f s
