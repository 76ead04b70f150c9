use Rattle.std.proofs.Common.{◌≡◌, ℤ, List, ◌*ℤ◌, ◌*◌}
use Rattle.columns.specs.Steps.{IsColumnWritten, AreKept}
use Rattle.columns.proofs.column.own_column.Given as goal

abbrev pub invariant-cells : goal.invariant-cells
invariant-cells l = record {
  written : (cells : List ℤ) (g : ℤ) → l.factor *ℤ g ≡ l.parts.x.now.denominator →
      IsColumnWritten cells l.parts l.parts.x.now.column l.i g l.new;
  kept : AreKept (l.parts.x.now.column * l.parts.x.now.height) l.fn.new l.new;
}
