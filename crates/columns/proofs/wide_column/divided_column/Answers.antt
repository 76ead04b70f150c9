use Rattle.std.proofs.Common.{refl, rules}
use Rattle.columns.proofs.ColumnLemmas.{cell_written}
use Rattle.columns.proofs.wide_column.divided_column.Goals as goal

pub cells-preserved : goal.cells-preserved
cells-preserved c =
    let more =
    cell_written c.args.old.now c.args.parts.now c.args.column c.args.scale.now.divisor c.cells.i c.args.new.now
    c.cells.new c.in-Some.q _ c.requires.inside (search rules) refl c.in-Some.ensures c.cells.invariant.written
    c.cells.invariant.kept in
    record { written = more.0; kept = more.1 }
