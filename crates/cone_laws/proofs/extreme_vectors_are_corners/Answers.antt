use Rattle.cone_laws.proofs.PointedLemmas.{extreme_by_corner}
use Rattle.cone_laws.proofs.extreme_vectors_are_corners.Goals as goal

pub returns : goal.returns
returns c = extreme_by_corner
