use Rattle.text_laws.proofs.WholeText.{rows_are_read_back}
use Rattle.text_laws.proofs.rows.Goals as goal

pub returns : goal.returns
returns c = rows_are_read_back
