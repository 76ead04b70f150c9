use Rattle.poly_io.proofs.Parts.{prints_cut, prints_then}
use Rattle.row_printer.proofs.labels.write_key.Goals as goal

pub returns-in_err-write_count : goal.returns-in_err-write_count
returns-in_err-write_count g c =
    rw (← c.labels-labels.ensures.value)
    (prints_cut _ c.from_residual.ensures.0 c.in_err-write_count.ensures)

pub returns : goal.returns
returns g c = rw (← c.labels-labels.ensures.value) (prints_then c.in_ok-write_count.ensures c.write_labels.ensures)
