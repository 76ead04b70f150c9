use Rattle.std.proofs.Common.{drop}
use Rattle.poly_io.proofs.Parts.{Owes}
use Rattle.poly_model.specs.ListingText.{coordinates_text}
use Rattle.row_printer.proofs.point.write_coordinates.Given as goal

abbrev pub invariant-loop-y : goal.invariant-loop-y
invariant-loop-y g l =
    Owes g.S.Sink l.initial.out l.out (coordinates_text l.first l.rest)
    (coordinates_text l.first (drop l.y-index l.rest))
