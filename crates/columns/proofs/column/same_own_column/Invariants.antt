use Rattle.std.proofs.Common.{ℤ, List, ◌*◌}
use Rattle.columns.specs.Sizes.{IsColumnOfSize}
use Rattle.columns.specs.Steps.{IsColumnWritten, AreKept}
use Rattle.columns.proofs.column.same_own_column.Given as goal

abbrev pub invariant-cells : goal.invariant-cells
invariant-cells l = record {
  written : (cells : List ℤ) →
      IsColumnWritten cells l.parts l.parts.x.now.column l.i l.parts.x.now.denominator l.new;
  kept : AreKept (l.parts.x.now.column * l.parts.x.now.height) l.fn.new l.new;
  size : IsColumnOfSize l.size l.parts.x.now.height l.parts.x.now.column l.i l.new;
}
