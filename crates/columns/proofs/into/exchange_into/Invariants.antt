use Rattle.std.proofs.Common.{◌*◌}
use Rattle.columns.specs.Sizes.{AreOf}
use Rattle.columns.specs.Steps.{IsScale, IsOver, factor_of}
use Rattle.columns.proofs.into.exchange_into.Given as goal

abbrev pub invariant-columns : goal.invariant-columns
invariant-columns l = record {
  over : IsOver l.parts.x.now l.cells (factor_of l.parts) l.j l.scale.divisor l.new;
  scale : IsScale l.parts.x.now l.scale.divisor l.scale.factor;
  size : AreOf l.scale.size (l.j * l.parts.x.now.height) l.new;
}
