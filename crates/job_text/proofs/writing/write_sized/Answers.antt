use Rattle.std.proofs.Common.{length}
use Rattle.std.specs.Prelude.{decimal}
use Rattle.poly_io.proofs.Parts.{prints_cut, prints_then}
use Rattle.job_text.specs.Jobs.{input_line}
use Rattle.job_text.proofs.JobLineLemmas.{line_joined, prints_same}
use Rattle.job_text.proofs.writing.write_sized.Goals as goal

pub returns-in_err-write_count_line : goal.returns-in_err-write_count_line
returns-in_err-write_count_line g c =
    prints_same (line_joined (input_line (decimal (length c.args.file.now))) c.args.file.now)
    (prints_cut _ c.from_residual.ensures.0 c.in_err-write_count_line.ensures)

pub returns : goal.returns
returns g c =
    prints_same (line_joined (input_line (decimal (length c.args.file.now))) c.args.file.now)
    (prints_then c.in_ok-write_count_line.ensures c.write_all.ensures)
