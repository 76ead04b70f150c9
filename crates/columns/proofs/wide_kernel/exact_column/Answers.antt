use Rattle.std.proofs.Common.{ap, sym, ℤ, ◌*ℤ◌, ◌-ℤ◌, ◌∙◌, rules, ◌<◌}
use Rattle.columns.proofs.ColumnLemmas.{cell_written, beside_is}
use Rattle.columns.proofs.wide_kernel.exact_column.Goals as goal

pub cells-preserved : goal.cells-preserved
cells-preserved c =
    let old = c.args.old.now in
    let parts = c.args.parts.now in
    let j = c.args.column in
    let q = c.in-Some.q in
    let own = c.number_at.result in
    let b = c.new-b.result in
    let e = c.cell_beside.result in
    let here : c.cells.i < parts.x.now.height = search rules in
    let more =
    cell_written old parts j c.args.divisor.now c.cells.i c.args.new.now c.cells.new q _ c.requires.inside here
    (ap (λ (z : ℤ). q *ℤ z) (sym c.copied-by.ensures) ∙ c.in-Some.ensures)
    (beside_is old parts j c.requires.parts.own.leaving c.requires.inside.other c.cells.i _ _ _ _
    c.cell_beside.ensures.here (λ n. c.cell_beside.ensures.other n ∙ c.column-cells.ensures.cells c.cells.i here)
    c.number_at.ensures
    (c.new-b.ensures ∙ c.at.ensures ∙ c.column-cells.ensures.cells parts.x.now.row c.requires.parts.can.row)
    (ap (λ (p : ℤ). e *ℤ p -ℤ own *ℤ b) c.new-p.ensures))
    c.cells.invariant.written c.cells.invariant.kept in
    record { written = more.0; kept = more.1 }
