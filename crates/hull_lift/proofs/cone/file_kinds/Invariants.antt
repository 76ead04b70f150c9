use Rattle.std.proofs.Common.{◌≡◌, take}
use Rattle.hull_lift.specs.Cells.{row_kinds}
use Rattle.hull_lift.proofs.cone.file_kinds.Given as goal

abbrev pub invariant-rows : goal.invariant-rows
invariant-rows l = l.kinds.items ≡ row_kinds l.poly.kind (take l.i l.poly.rows)
