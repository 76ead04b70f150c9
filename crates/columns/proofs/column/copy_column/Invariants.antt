use Rattle.std.proofs.Common.{◌*◌}
use Rattle.columns.specs.Sizes.{IsColumnOfSize}
use Rattle.columns.specs.Steps.{IsColumnWritten, AreKept}
use Rattle.columns.proofs.column.copy_column.Given as goal

abbrev pub invariant-cells : goal.invariant-cells
invariant-cells l = record {
  written : IsColumnWritten l.cells l.fn.parts l.fn.column l.i l.fn.divisor l.new;
  kept : AreKept (l.fn.column * l.fn.parts.x.now.height) l.fn.new l.new;
  size : IsColumnOfSize l.fn.parts.size l.fn.parts.x.now.height l.fn.column l.i l.new;
}
