use Rattle.columns.specs.Steps.{IsColumnOver}
use Rattle.columns.proofs.common.wide_own_of.Given as goal

abbrev pub invariant-cells : goal.invariant-cells
invariant-cells l = IsColumnOver l.x l.cells l.factors l.i l.own
