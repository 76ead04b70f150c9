use Rattle.std.proofs.Common.{◌≡◌, ◌++◌, take}
use Rattle.poly_model.specs.Systems.{nonnegative_row}
use Rattle.hull_lift.proofs.cone.append_nonnegative_row.Given as goal

abbrev pub invariant-entries : goal.invariant-entries
invariant-entries l = l.cells.items ≡ l.fn.cells.items ++ take l.i (nonnegative_row l.n l.j).entries
