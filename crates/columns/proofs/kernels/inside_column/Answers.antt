use Rattle.std.proofs.Common.{refl, ap, sym, ℤ, ◌*ℤ◌, ◌∙◌, rules}
use Rattle.columns.proofs.ColumnLemmas.{cell_written, inside_is}
use Rattle.columns.proofs.kernels.inside_column.Goals as goal

pub cells-preserved : goal.cells-preserved
cells-preserved c =
    let parts = c.args.parts.now in
    let j = c.args.column in
    let q = c.in-Some.q in
    let more =
    cell_written c.args.cells.now parts j c.args.divisor.now c.cells.i c.args.new.now c.cells.new q _
    c.requires.inside (search rules) (ap (λ (z : ℤ). q *ℤ z) (sym c.copied-by.ensures) ∙ c.in-Some.ensures)
    (inside_is c.args.cells.now parts j c.requires.parts.are.own.leaving c.requires.inside.other c.cells.i _ _ _ _
    c.at_place.ensures c.at_place-in-cells.ensures c.word_at-b.ensures refl)
    c.cells.invariant.written c.cells.invariant.kept in
    record { written = more.0; kept = more.1 }
