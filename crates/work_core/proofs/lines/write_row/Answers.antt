use Rattle.poly_io.proofs.Parts.{prints_cut, prints_then}
use Rattle.work_core.proofs.lines.write_row.Goals as goal

pub returns-in_err-write_all-clause-prints : goal.returns-in_err-write_all-clause-prints
returns-in_err-write_all-clause-prints g c = prints_cut _ c.from_residual.ensures.0 c.in_err-write_all.ensures

pub returns-clause-prints : goal.returns-clause-prints
returns-clause-prints g c = prints_then c.in_ok-write_all.ensures c.write_vector.ensures
