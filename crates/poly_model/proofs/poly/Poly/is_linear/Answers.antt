use Rattle.std.proofs.Common.{sym, ap, ◌-◌}
use Rattle.poly_model.specs.Systems.{Polyhedron}
use Rattle.poly_model.proofs.RowLemmas.{file_row_from_one}
use Rattle.poly_model.proofs.TableLemmas.{linear_at, row_index}
use Rattle.poly_model.proofs.poly.Poly.is_linear.Goals as goal

pub returns : goal.returns
returns c =
    let self = c.self.inside in
    let index = row_index self.n c.args.i self.cells.items self.linear.items c.args.self.now (ap (λ (p : Polyhedron). p.rows) c.self.view_is) c.requires.from_one c.requires.within in
    rw (c.deref-linear.ensures.value, file_row_from_one c.args.self.now c.args.i c.requires.from_one, ← c.self.view_is) (sym (linear_at self.n (c.args.i - 1) self.cells.items self.linear.items index))

pub bounds-linear-i : goal.bounds-linear-i
bounds-linear-i c =
    let self = c.self.inside in
    rw c.deref-linear.ensures.value (row_index self.n c.args.i self.cells.items self.linear.items c.args.self.now (ap (λ (p : Polyhedron). p.rows) c.self.view_is) c.requires.from_one c.requires.within)
