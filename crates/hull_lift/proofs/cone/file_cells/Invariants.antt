use Rattle.std.proofs.Common.{◌≡◌, take}
use Rattle.std.specs.List.{All}
use Rattle.hull_lift.specs.Cells.{cells_of, HasWidth}
use Rattle.hull_lift.proofs.cone.file_cells.Given as goal

-- the cells of the rows before row i
abbrev pub invariant-rows : goal.invariant-rows
invariant-rows l =
    record {
      cells : l.cells.items ≡ cells_of (take l.i l.poly.rows);
      width : All (HasWidth l.poly.n) (take l.i l.poly.rows);
    }
