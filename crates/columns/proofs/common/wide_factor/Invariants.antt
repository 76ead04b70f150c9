use Rattle.columns.specs.Steps.{IsCommonFactor}
use Rattle.columns.proofs.common.wide_factor.Given as goal

abbrev pub invariant-rows : goal.invariant-rows
invariant-rows l = IsCommonFactor l.x l.cells l.i 0 l.common

abbrev pub invariant-columns : goal.invariant-columns
invariant-columns l = IsCommonFactor l.x l.cells l.x.height l.j l.common
