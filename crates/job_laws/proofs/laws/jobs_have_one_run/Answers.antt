use Rattle.job_laws.proofs.OneOutcome.{jobs_have_one_run}
use Rattle.job_laws.proofs.laws.jobs_have_one_run.Goals as goal

pub returns : goal.returns
returns c = jobs_have_one_run
