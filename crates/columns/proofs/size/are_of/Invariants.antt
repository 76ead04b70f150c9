use Rattle.columns.specs.Sizes.{AreOf}
use Rattle.columns.proofs.size.are_of.Given as goal

abbrev pub invariant-cells : goal.invariant-cells
invariant-cells l = AreOf l.size l.k l.words
