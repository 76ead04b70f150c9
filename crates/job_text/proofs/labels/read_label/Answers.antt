use Rattle.job_text.proofs.LabelLemmas.{coordinate_read}
use Rattle.job_text.proofs.labels.read_label.Goals as goal

pub returns-in-Some : goal.returns-in-Some
returns-in-Some c = coordinate_read _ c.in-Some.column.now c.args.word.now c.in-Some.ensures c.read_coordinate.ensures
