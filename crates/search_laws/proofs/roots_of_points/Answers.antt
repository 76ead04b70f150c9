use Rattle.search_laws.proofs.FeasibleFiles.{roots_of_points}
use Rattle.search_laws.proofs.roots_of_points.Goals as goal

pub returns : goal.returns
returns c = roots_of_points
