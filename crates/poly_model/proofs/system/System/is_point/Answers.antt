use Rattle.std.proofs.Common.{sym, ap, ◌-◌, ◌∙◌, arith}
use Rattle.poly_model.specs.declared.kind.RowKind.TheVariants.{Point}
use Rattle.poly_model.specs.Systems.{Row, System}
use Rattle.poly_model.proofs.RowLemmas.{row_from_one}
use Rattle.poly_model.proofs.TableLemmas.{cone_point_at, cone_row_index}
use Rattle.poly_model.proofs.system.System.is_point.Goals as goal

pub returns : goal.returns
returns c =
    let self = c.self.inside in
    let index = cone_row_index self.n c.args.i self.cells.items self.linear.items self.kinds.items c.args.self.now c.self.invariant.1 (ap (λ (s : System). s.rows) c.self.view_is) c.requires.from_one c.requires.within in
    rw (c.is_point_kind.ensures, c.deref-kinds.ensures.value, ← c.self.view_is) (sym (ap (λ (r : Row). r.point) (row_from_one _ c.args.i c.requires.from_one) ∙ cone_point_at self.n (c.args.i - 1) self.cells.items self.linear.items self.kinds.items Point c.self.invariant.1 index))

pub bounds-kinds-i : goal.bounds-kinds-i
bounds-kinds-i c =
    let self = c.self.inside in
    let index = cone_row_index self.n c.args.i self.cells.items self.linear.items self.kinds.items c.args.self.now c.self.invariant.1 (ap (λ (s : System). s.rows) c.self.view_is) c.requires.from_one c.requires.within in
    rw c.deref-kinds.ensures.value (omega (arith, c.self.invariant.1))
