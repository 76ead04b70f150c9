use Rattle.tree_laws.proofs.PointVectors.{some_point, same_point}
use Rattle.tree_laws.proofs.cobasis_has_one_point.Goals as goal

pub returns : goal.returns
returns c space key t d =
    let p = some_point space key t d in
    record { vector = p.0; at = p.1; only = λ y at. same_point space key t d p.0 y p.1 at }
