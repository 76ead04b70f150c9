use Rattle.poly_io.proofs.Parts.{prints_cut, prints_then}
use Rattle.job_text.proofs.tail.write_overflow_line.Goals as goal

pub returns-in_err-write_all : goal.returns-in_err-write_all
returns-in_err-write_all g c =
    prints_cut _ c.from_residual.ensures.0 c.in_err-write_all.ensures

pub returns-in_err-write_overflow : goal.returns-in_err-write_overflow
returns-in_err-write_overflow g c =
    prints_then c.in_ok-write_all.ensures
    (prints_cut _ c.from_residual-in_err-write_overflow.ensures.0 c.in_err-write_overflow.ensures)

pub returns : goal.returns
returns g c =
    prints_then c.in_ok-write_all.ensures
    (prints_then c.in_ok-write_overflow.ensures c.write_all-2.ensures)
