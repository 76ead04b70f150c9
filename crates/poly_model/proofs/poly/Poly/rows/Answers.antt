use Rattle.std.proofs.Common.{sym}
use Rattle.poly_model.proofs.TableLemmas.{length-file_rows_in}
use Rattle.poly_model.proofs.poly.Poly.rows.Goals as goal

pub returns-clause-value : goal.returns-clause-value
returns-clause-value c =
    let self = c.self.inside in
    rw (c.deref-linear.ensures.value, ← c.self.view_is) (sym (length-file_rows_in self.n self.cells.items self.linear.items))
