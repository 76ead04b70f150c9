use Rattle.std.proofs.Common.{◌≡◌, ◌++◌}
use Rattle.poly_model.specs.Systems.{first_unit}
use Rattle.hull_lift.proofs.cone.append_first_unit.Given as goal

abbrev pub invariant-zeros : goal.invariant-zeros
invariant-zeros l = l.cells.items ≡ l.fn.cells.items ++ first_unit l.counter
