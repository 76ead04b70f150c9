use Rattle.columns.specs.Steps.{IsScaled}
use Rattle.columns.proofs.rescale.scale_words.Given as goal

abbrev pub invariant-cells : goal.invariant-cells
invariant-cells l = IsScaled l.k l.factor l.fn.new l.new
