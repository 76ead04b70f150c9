use Rattle.std.proofs.Common.{◌*◌, List, ℤ}
use Rattle.columns.specs.Steps.{AreWideParts, IsColumnWritten, AreKept}
use Rattle.columns.proofs.wide_column.wide_own_column.Given as goal

abbrev pub invariant-cells : goal.invariant-cells
invariant-cells l = record {
  written : (cells : List ℤ) → AreWideParts cells l.parts →
      IsColumnWritten cells l.parts l.parts.x.now.column l.i l.scale.divisor l.new;
  kept : AreKept (l.parts.x.now.column * l.parts.x.now.height) l.fn.new l.new;
}
