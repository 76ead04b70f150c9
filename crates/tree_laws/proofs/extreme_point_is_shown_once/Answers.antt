use Rattle.tree_laws.proofs.ShownOnce.{point_once}
use Rattle.tree_laws.proofs.extreme_point_is_shown_once.Goals as goal

pub returns : goal.returns
returns c space root home h distinct y extreme up = point_once space root home y extreme h distinct up
