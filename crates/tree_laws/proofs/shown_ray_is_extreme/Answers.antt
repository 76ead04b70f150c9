use Rattle.tree_laws.proofs.RayValues.{ray_is_extreme}
use Rattle.tree_laws.proofs.shown_ray_is_extreme.Goals as goal

pub returns : goal.returns
returns c = ray_is_extreme
