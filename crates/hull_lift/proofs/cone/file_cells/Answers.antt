use Rattle.std.proofs.Common.{◌<◌, length, arith, sym}
use Rattle.std.proofs.lemmas.List.Elements.{All-more}
use Rattle.poly_model.specs.Systems.{no_file_row}
use Rattle.hull_lift.specs.Cells.{HasWidth}
use Rattle.hull_lift.proofs.CellLemmas.{cells_of_one_more}
use Rattle.hull_lift.proofs.cone.file_cells.Goals as goal

pub rows-preserved : goal.rows-preserved
rows-preserved c =
    let rows = c.args.poly.now.rows in
    let within : c.rows.i < length rows = omega arith in
    record {
      cells = rw (c.in_ok-extend_from_slice.ensures.items, c.rows.invariant.cells, c.row_at.ensures.value)
          (sym (cells_of_one_more rows c.rows.i within));
      width = All-more (HasWidth c.args.poly.now.n) rows c.rows.i no_file_row within c.rows.invariant.width
          (rw c.row_at.ensures.value at c.row_at.ensures.width);
    }
