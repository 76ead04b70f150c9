use Rattle.std.proofs.Common.{[], ◌∷◌}
use Rattle.poly_io.proofs.Parts.{prints_cut, prints_part, prints_then}
use Rattle.poly_model.specs.ListingText.{coordinates_text, point_text}
use Rattle.row_printer.proofs.point.write_point.Goals as goal

pub returns-in_err-write_all : goal.returns-in_err-write_all
unfolding point_text
returns-in_err-write_all g c =
    prints_cut (10 ∷ []) c.from_residual.ensures.0
    (prints_part (coordinates_text c.args.first c.args.rest.now) c.in_err-write_all.ensures)

pub returns-in_err-write_coordinates : goal.returns-in_err-write_coordinates
unfolding point_text
returns-in_err-write_coordinates g c =
    prints_cut (10 ∷ []) c.from_residual-in_err-write_coordinates.ensures.0
    (prints_then c.in_ok-write_all.ensures c.in_err-write_coordinates.ensures)

pub returns : goal.returns
unfolding point_text
returns g c =
    prints_then (prints_then c.in_ok-write_all.ensures c.in_ok-write_coordinates.ensures) c.write_all-2.ensures
