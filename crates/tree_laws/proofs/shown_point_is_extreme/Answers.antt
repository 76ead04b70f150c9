use Rattle.tree_laws.proofs.PointValues.{point_is_extreme}
use Rattle.tree_laws.proofs.shown_point_is_extreme.Goals as goal

pub returns : goal.returns
returns c = point_is_extreme
