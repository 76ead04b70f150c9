use Rattle.std.proofs.Common.{refl, length, inl}
use Rattle.work_core.specs.ReplyLines.{row_line}
use Rattle.plain_text.proofs.ReadLemmas.{some_read, none_read}
use Rattle.job_text.proofs.FitLemmas.{no_row}
use Rattle.job_text.proofs.fit.fit_row.Goals as goal

pub returns-then-read_row-clause-fits : goal.returns-then-read_row-clause-fits
returns-then-read_row-clause-fits c =
    let read = c.read_row.ensures.yes c.if-read_row.true in
    some_read (inl (row_line c.read_row.new.row)) (read.0, refl) read.1

pub returns-else-read_row-clause-fits : goal.returns-else-read_row-clause-fits
returns-else-read_row-clause-fits c =
    none_read (no_row (length c.args.row.now) c.args.rows c.args.jobs c.args.rest.now (c.read_row.ensures.no c.if-read_row.false))
