use Rattle.tree_laws.proofs.ShownOnce.{ray_once}
use Rattle.tree_laws.proofs.extreme_ray_is_shown_once.Goals as goal

pub returns : goal.returns
returns c space root home h y extreme level = ray_once space root home y extreme h level
