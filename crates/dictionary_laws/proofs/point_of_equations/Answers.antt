use Rattle.dictionary_laws.proofs.Origins.{some_origin}
use Rattle.dictionary_laws.proofs.Equations.{constants_where_point, point_where_constants}
use Rattle.dictionary_laws.proofs.point_of_equations.Goals as goal

pub returns : goal.returns
returns c space key equations t p cobasis w labels settled = (
  constants_where_point space key equations t w labels settled,
  point_where_constants space key equations t w labels (some_origin space key p cobasis),
)
