use Rattle.std.proofs.Common.{◌*◌}
use Rattle.columns.specs.Steps.{IsColumnWritten, AreKept}
use Rattle.columns.proofs.wide_column.same_column.Given as goal

abbrev pub invariant-cells : goal.invariant-cells
invariant-cells l = record {
  written : IsColumnWritten l.old l.fn.parts l.column l.i l.fn.divisor l.new;
  kept : AreKept (l.column * l.fn.parts.x.now.height) l.fn.new l.new;
}
