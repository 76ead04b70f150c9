use Rattle.std.proofs.Common.{◌≡◌, ◌++◌, map}
use Rattle.std.specs.List.{range_with_len}
use Rattle.poly_model.specs.Systems.{nonnegative_row}
use Rattle.hull_lift.specs.Cells.{cells_of}
use Rattle.hull_lift.proofs.cone.append_nonnegative_rows.Given as goal

abbrev pub invariant-rows : goal.invariant-rows
invariant-rows l = l.cells.items ≡ l.fn.cells.items ++ cells_of (map (nonnegative_row l.n) (range_with_len 1 l.i))
