use Rattle.job_laws.proofs.OneOutcome.{same_rows_and_keys_serve}
use Rattle.job_laws.proofs.laws.same_rows_and_keys_serve.Goals as goal

pub returns : goal.returns
returns c = same_rows_and_keys_serve
