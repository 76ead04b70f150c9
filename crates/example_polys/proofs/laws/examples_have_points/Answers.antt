use Rattle.example_polys.proofs.Points.{has_point}
use Rattle.example_polys.proofs.laws.examples_have_points.Goals as goal

pub returns : goal.returns
returns c = has_point
