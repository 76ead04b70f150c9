use Rattle.std.proofs.Common.{sym, ap, ◌-◌, ◌∙◌}
use Rattle.poly_model.specs.Systems.{Row, System}
use Rattle.poly_model.proofs.RowLemmas.{row_from_one}
use Rattle.poly_model.proofs.TableLemmas.{cone_linear_at, cone_row_index}
use Rattle.poly_model.proofs.system.System.is_linear.Goals as goal

pub returns : goal.returns
returns c =
    let self = c.self.inside in
    let index = cone_row_index self.n c.args.i self.cells.items self.linear.items self.kinds.items c.args.self.now c.self.invariant.1 (ap (λ (s : System). s.rows) c.self.view_is) c.requires.from_one c.requires.within in
    rw (c.deref-linear.ensures.value, ← c.self.view_is) (sym (ap (λ (r : Row). r.linear) (row_from_one _ c.args.i c.requires.from_one) ∙ cone_linear_at self.n (c.args.i - 1) self.cells.items self.linear.items self.kinds.items c.self.invariant.1 index))

pub bounds-linear-i : goal.bounds-linear-i
bounds-linear-i c =
    let self = c.self.inside in
    rw c.deref-linear.ensures.value (cone_row_index self.n c.args.i self.cells.items self.linear.items self.kinds.items c.args.self.now c.self.invariant.1 (ap (λ (s : System). s.rows) c.self.view_is) c.requires.from_one c.requires.within)
