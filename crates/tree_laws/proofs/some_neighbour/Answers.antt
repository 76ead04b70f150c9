use Rattle.std.proofs.Common.{refl}
use Rattle.poly_model.specs.Tree.{exchanged_key}
use Rattle.tree_laws.proofs.Least.{some_leaves}
use Rattle.tree_laws.proofs.some_neighbour.Goals as goal

pub returns : goal.returns
returns c space root key t s i m o n =
    let l = some_leaves space root key t s i o n in
    (exchanged_key key s l.0, record { column = m; r = l.0; leaves = l.1; exchange = refl })
