use Rattle.std.proofs.Common.{◌*◌}
use Rattle.columns.specs.Sizes.{AreOf}
use Rattle.columns.specs.Steps.{IsScale, IsShrunk}
use Rattle.columns.proofs.into.exchange_column.Given as goal

abbrev pub invariant-tries : goal.invariant-tries
invariant-tries l = record {
  shrunk : IsShrunk l.cells l.parts l.column l.fn.scale.divisor l.scale.divisor l.fn.new l.new;
  scale : IsScale l.parts.x.now l.scale.divisor l.scale.factor;
  size : AreOf l.fn.scale.size (l.column * l.parts.x.now.height) l.fn.new →
      AreOf l.scale.size (l.column * l.parts.x.now.height) l.new;
}
