use Rattle.std.proofs.Common.{sym, ap, ◌-◌, ◌∙◌}
use Rattle.poly_model.specs.Systems.{Row, System}
use Rattle.poly_model.proofs.RowLemmas.{row_from_one}
use Rattle.poly_model.proofs.TableLemmas.{cone_entries_at, cone_row_index, row_width, row_within}
use Rattle.poly_model.proofs.system.System.row.Goals as goal

pub row_at-requires : goal.row_at-requires
row_at-requires c =
    let self = c.self.inside in
    let index = cone_row_index self.n c.args.i self.cells.items self.linear.items self.kinds.items c.args.self.now c.self.invariant.1 (ap (λ (s : System). s.rows) c.self.view_is) c.requires.from_one c.requires.within in
    rw c.deref-cells.ensures.value (row_within _ _ _ _ _ c.self.invariant.0 index)

pub returns-clause-value : goal.returns-clause-value
returns-clause-value c =
    let self = c.self.inside in
    let index = cone_row_index self.n c.args.i self.cells.items self.linear.items self.kinds.items c.args.self.now c.self.invariant.1 (ap (λ (s : System). s.rows) c.self.view_is) c.requires.from_one c.requires.within in
    rw (c.row_at.ensures, c.deref-cells.ensures.value, ← c.self.view_is) (sym (ap (λ (r : Row). r.entries) (row_from_one _ c.args.i c.requires.from_one) ∙ cone_entries_at self.n (c.args.i - 1) self.cells.items self.linear.items self.kinds.items c.self.invariant.1 index))

pub returns-clause-width : goal.returns-clause-width
returns-clause-width c =
    let self = c.self.inside in
    let index = cone_row_index self.n c.args.i self.cells.items self.linear.items self.kinds.items c.args.self.now c.self.invariant.1 (ap (λ (s : System). s.rows) c.self.view_is) c.requires.from_one c.requires.within in
    rw (c.row_at.ensures, c.deref-cells.ensures.value, ← c.self.view_is) (row_width self.n (c.args.i - 1) self.cells.items (row_within _ _ _ _ _ c.self.invariant.0 index))
