use Rattle.std.proofs.Common.{length, ap, ◌-◌, ◌∙◌}
use Rattle.poly_model.specs.Systems.{Row, System}
use Rattle.poly_model.proofs.RowLemmas.{row_from_one}
use Rattle.poly_model.proofs.TableLemmas.{cone_entries_at, cone_row_index, row_width as width_of, row_within}
use Rattle.poly_model.proofs.system.System.row_width.Goals as goal

pub returns-clause-each : goal.returns-clause-each
returns-clause-each c i from_one within =
    let self = c.self.inside in
    let index = cone_row_index self.n i self.cells.items self.linear.items self.kinds.items c.args.self.now
    c.self.invariant.1 (ap (λ (s : System). s.rows) c.self.view_is) from_one within in
    rw (← c.self.view_is)
    (ap (λ (r : Row). length r.entries) (row_from_one _ i from_one)
    ∙ ap length (cone_entries_at self.n (i - 1) self.cells.items self.linear.items self.kinds.items c.self.invariant.1 index)
    ∙ width_of self.n (i - 1) self.cells.items (row_within _ _ _ _ _ c.self.invariant.0 index))
