use Rattle.poly_io.proofs.Parts.{prints_cut, prints_then}
use Rattle.job_text.specs.FirstPayloads.{ledger_line}
use Rattle.job_text.specs.Jobs.{root_line, sized}
use Rattle.job_text.proofs.JobLineLemmas.{prints_same, two_lines_joined}
use Rattle.job_text.proofs.writing.write_first_text.Goals as goal

pub returns-in_err-write_ledger_line : goal.returns-in_err-write_ledger_line
returns-in_err-write_ledger_line g c =
    prints_same (two_lines_joined (ledger_line c.args.work) (root_line c.args.root.now.key) (sized c.args.file.now))
    (prints_cut _ c.from_residual.ensures.0 c.in_err-write_ledger_line.ensures)

pub returns-in_err-write_key_line : goal.returns-in_err-write_key_line
returns-in_err-write_key_line g c =
    rw (← c.key.ensures)
    (prints_same (two_lines_joined (ledger_line c.args.work) (root_line c.key.result) (sized c.args.file.now))
    (prints_then c.in_ok-write_ledger_line.ensures
    (prints_cut _ c.from_residual-in_err-write_key_line.ensures.0 c.in_err-write_key_line.ensures)))

pub returns : goal.returns
returns g c =
    rw (← c.key.ensures)
    (prints_same (two_lines_joined (ledger_line c.args.work) (root_line c.key.result) (sized c.args.file.now))
    (prints_then c.in_ok-write_ledger_line.ensures (prints_then c.in_ok-write_key_line.ensures c.write_sized.ensures)))
