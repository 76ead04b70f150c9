use Rattle.poly_io.proofs.Parts.{prints_cut, prints_then}
use Rattle.run_ledger.proofs.telling.write_progress.Goals as goal

pub returns-in_err-write_count_line : goal.returns-in_err-write_count_line
returns-in_err-write_count_line g c = prints_cut _ c.from_residual.ensures.0 c.in_err-write_count_line.ensures

pub returns-in_err-write_count_line-2 : goal.returns-in_err-write_count_line-2
returns-in_err-write_count_line-2 g c =
    prints_then c.in_ok-write_count_line.ensures
    (prints_cut _ c.from_residual-in_err-write_count_line-2.ensures.0 c.in_err-write_count_line-2.ensures)

pub returns : goal.returns
returns g c =
    prints_then c.in_ok-write_count_line.ensures
    (prints_then c.in_ok-write_count_line-2.ensures c.write_count_line-3.ensures)
