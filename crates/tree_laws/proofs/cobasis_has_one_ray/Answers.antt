use Rattle.tree_laws.proofs.RayVectors.{some_ray, same_ray}
use Rattle.tree_laws.proofs.cobasis_has_one_ray.Goals as goal

pub returns : goal.returns
returns c space key t s d m =
    let p = some_ray space key t d s m in
    record { vector = p.0; along = p.1; only = λ y along. same_ray space key t d s m p.0 y p.1 along }
