use Rattle.tree_laws.proofs.AlongRows.{descend_along}
use Rattle.tree_laws.proofs.descends_along_rows.Goals as goal

pub returns : goal.returns
returns c space root key home t h f qs rows =
    let w = descend_along space root home h qs rows (record { key = key; table = t; feasible = f }) in
    record { key = w.0.key; table = w.0.table; feasible = w.0.feasible; columns = w.1 }
