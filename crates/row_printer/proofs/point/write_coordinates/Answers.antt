use Rattle.std.proofs.Common.{arith}
use Rattle.poly_io.proofs.Parts.{owes_cut, owes_less, owes_none}
use Rattle.row_printer.proofs.ListingTextLemmas.{coordinates_text-next, coordinates_text-none}
use Rattle.row_printer.proofs.point.write_coordinates.Goals as goal

pub returns-in_err-write_coordinate : goal.returns-in_err-write_coordinate
returns-in_err-write_coordinate g c =
    owes_cut _ c.loop-y.invariant
    (coordinates_text-next c.args.first c.args.rest.now c.loop-y.y-index _ (omega arith) c.y-item.is)
    c.from_residual.ensures.0 c.in_err-write_coordinate.ensures

pub loop-y-preserved : goal.loop-y-preserved
loop-y-preserved g c =
    owes_less c.loop-y.invariant
    (coordinates_text-next c.args.first c.args.rest.now c.loop-y.y-index _ (omega arith) c.y-item.is)
    c.in_ok-write_coordinate.ensures

pub returns : goal.returns
returns g c =
    owes_none _ c.loop-y.invariant (coordinates_text-none c.args.first c.args.rest.now c.loop-y.y-index (omega arith))
