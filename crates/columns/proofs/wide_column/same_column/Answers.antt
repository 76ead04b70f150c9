use Rattle.std.proofs.Common.{refl, rules}
use Rattle.columns.proofs.ColumnLemmas.{cell_written, stays_is}
use Rattle.columns.proofs.wide_column.same_column.Goals as goal

pub cells-preserved : goal.cells-preserved
cells-preserved c =
    let parts = c.args.parts.now in
    let old = c.args.old.now in
    let j = c.args.column in
    let g = c.args.divisor.now in
    let e = c.at-e.result in
    let more =
    cell_written old parts j g c.cells.i c.args.new.now c.cells.new e _ c.requires.inside (search rules) refl
    (stays_is old parts j c.requires.inside.other g c.requires.nothing c.requires.same c.cells.i e c.at-e.ensures)
    c.cells.invariant.written c.cells.invariant.kept in
    record { written = more.0; kept = more.1 }
