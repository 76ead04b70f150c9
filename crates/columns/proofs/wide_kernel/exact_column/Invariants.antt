use Rattle.std.proofs.Common.{◌*◌}
use Rattle.columns.specs.Steps.{IsColumnWritten, AreKept}
use Rattle.columns.proofs.wide_kernel.exact_column.Given as goal

abbrev pub invariant-cells : goal.invariant-cells
invariant-cells l = record {
  written : IsColumnWritten l.old l.parts l.column l.i l.divisor l.new;
  kept : AreKept (l.column * l.parts.x.now.height) l.fn.new l.new;
}
