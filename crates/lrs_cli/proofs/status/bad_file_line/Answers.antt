use Rattle.poly_io.proofs.Parts.{prints_cut, prints_then}
use Rattle.lrs_cli.specs.StatusLine.{status_text}
use Rattle.lrs_cli.proofs.status.bad_file_line.Goals as goal

pub returns-in_err-write_all : goal.returns-in_err-write_all
unfolding status_text
returns-in_err-write_all g c = prints_cut _ c.from_residual.ensures.0 c.in_err-write_all.ensures

pub returns-in_err-write_kind : goal.returns-in_err-write_kind
unfolding status_text
returns-in_err-write_kind g c =
    prints_then c.in_ok-write_all.ensures
    (prints_cut _ c.from_residual-in_err-write_kind.ensures.0 c.in_err-write_kind.ensures)

pub returns : goal.returns
unfolding status_text
returns g c = prints_then c.in_ok-write_all.ensures (prints_then c.in_ok-write_kind.ensures c.write_count_line.ensures)
