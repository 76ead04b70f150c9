use Rattle.std.proofs.Common.{◌≡◌, take}
use Rattle.hull_lift.specs.Cells.{linear_marks}
use Rattle.hull_lift.proofs.cone.file_marks.Given as goal

abbrev pub invariant-rows : goal.invariant-rows
invariant-rows l = l.marks.items ≡ linear_marks (take l.i l.poly.rows)
