use Rattle.tree_laws.proofs.PointTest.{constants_are_not_negative}
use Rattle.tree_laws.proofs.constants_are_not_negative.Goals as goal

pub returns : goal.returns
returns c = constants_are_not_negative
