use Rattle.columns.specs.Steps.{IsLeftOfColumn, DividesColumn}
use Rattle.columns.proofs.wide_column.left_of_column.Given as goal

abbrev pub invariant-rows : goal.invariant-rows
invariant-rows l = record {
  left : IsLeftOfColumn l.old l.parts l.column l.i l.fn.divisor l.common;
  divides : DividesColumn l.old l.parts l.column l.i l.common;
}
