use Rattle.tree_laws.proofs.PointTest.{shown_point_is_feasible}
use Rattle.tree_laws.proofs.shown_point_is_feasible.Goals as goal

pub returns : goal.returns
returns c = shown_point_is_feasible
