use Rattle.std.proofs.Common.{sym, ap, ◌-◌}
use Rattle.poly_model.specs.Systems.{Polyhedron}
use Rattle.poly_model.proofs.RowLemmas.{file_row_from_one}
use Rattle.poly_model.proofs.TableLemmas.{entries_at, row_index, row_width, row_within}
use Rattle.poly_model.proofs.poly.Poly.row.Goals as goal

pub row_at-requires : goal.row_at-requires
row_at-requires c =
    let self = c.self.inside in
    let index = row_index self.n c.args.i self.cells.items self.linear.items c.args.self.now (ap (λ (p : Polyhedron). p.rows) c.self.view_is) c.requires.from_one c.requires.within in
    rw c.deref-cells.ensures.value (row_within _ _ _ _ _ c.self.invariant index)

pub returns-clause-value : goal.returns-clause-value
returns-clause-value c =
    let self = c.self.inside in
    let index = row_index self.n c.args.i self.cells.items self.linear.items c.args.self.now (ap (λ (p : Polyhedron). p.rows) c.self.view_is) c.requires.from_one c.requires.within in
    rw (c.row_at.ensures, c.deref-cells.ensures.value, file_row_from_one c.args.self.now c.args.i c.requires.from_one, ← c.self.view_is) (sym (entries_at self.n (c.args.i - 1) self.cells.items self.linear.items index))

pub returns-clause-width : goal.returns-clause-width
returns-clause-width c =
    let self = c.self.inside in
    let index = row_index self.n c.args.i self.cells.items self.linear.items c.args.self.now (ap (λ (p : Polyhedron). p.rows) c.self.view_is) c.requires.from_one c.requires.within in
    rw (c.row_at.ensures, c.deref-cells.ensures.value, ← c.self.view_is) (row_width self.n (c.args.i - 1) self.cells.items (row_within _ _ _ _ _ c.self.invariant index))
