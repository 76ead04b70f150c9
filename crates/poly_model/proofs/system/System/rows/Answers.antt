use Rattle.std.proofs.Common.{sym}
use Rattle.poly_model.proofs.TableLemmas.{length-cone_rows_in}
use Rattle.poly_model.proofs.system.System.rows.Goals as goal

pub returns-clause-value : goal.returns-clause-value
returns-clause-value c =
    let self = c.self.inside in
    rw (c.deref-linear.ensures.value, ← c.self.view_is) (sym (length-cone_rows_in self.n self.cells.items self.linear.items self.kinds.items c.self.invariant.1))
