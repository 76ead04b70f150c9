use Rattle.poly_io.proofs.Parts.{prints_cut, prints_then}
use Rattle.row_printer.proofs.overflow.write_places.Goals as goal

pub returns-in_err-write_place : goal.returns-in_err-write_place
returns-in_err-write_place g c = prints_cut _ c.from_residual.ensures.0 c.in_err-write_place.ensures

pub returns-in_err-write_all : goal.returns-in_err-write_all
returns-in_err-write_all g c =
    prints_then c.in_ok-write_place.ensures
    (prints_cut _ c.from_residual-in_err-write_all.ensures.0 c.in_err-write_all.ensures)

pub returns-in_err-write_place-2 : goal.returns-in_err-write_place-2
returns-in_err-write_place-2 g c =
    prints_then c.in_ok-write_place.ensures
    (prints_then c.in_ok-write_all.ensures
    (prints_cut _ c.from_residual-in_err-write_place-2.ensures.0 c.in_err-write_place-2.ensures))

pub returns-in_err-write_all-2 : goal.returns-in_err-write_all-2
returns-in_err-write_all-2 g c =
    prints_then c.in_ok-write_place.ensures
    (prints_then c.in_ok-write_all.ensures
    (prints_then c.in_ok-write_place-2.ensures
    (prints_cut _ c.from_residual-in_err-write_all-2.ensures.0 c.in_err-write_all-2.ensures)))

pub returns-in_err-write_place-3 : goal.returns-in_err-write_place-3
returns-in_err-write_place-3 g c =
    prints_then c.in_ok-write_place.ensures
    (prints_then c.in_ok-write_all.ensures
    (prints_then c.in_ok-write_place-2.ensures
    (prints_then c.in_ok-write_all-2.ensures
    (prints_cut _ c.from_residual-in_err-write_place-3.ensures.0 c.in_err-write_place-3.ensures))))

pub returns-in_err-write_all-3 : goal.returns-in_err-write_all-3
returns-in_err-write_all-3 g c =
    prints_then c.in_ok-write_place.ensures
    (prints_then c.in_ok-write_all.ensures
    (prints_then c.in_ok-write_place-2.ensures
    (prints_then c.in_ok-write_all-2.ensures
    (prints_then c.in_ok-write_place-3.ensures
    (prints_cut _ c.from_residual-in_err-write_all-3.ensures.0 c.in_err-write_all-3.ensures)))))

pub returns : goal.returns
returns g c =
    prints_then c.in_ok-write_place.ensures
    (prints_then c.in_ok-write_all.ensures
    (prints_then c.in_ok-write_place-2.ensures
    (prints_then c.in_ok-write_all-2.ensures
    (prints_then c.in_ok-write_place-3.ensures
    (prints_then c.in_ok-write_all-3.ensures c.write_place-4.ensures)))))
