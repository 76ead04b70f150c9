use Rattle.job_text.proofs.JobOrBadLemmas.{one_verdict}
use Rattle.job_text.proofs.laws.job_or_bad.Goals as goal

pub returns : goal.returns
returns c text = one_verdict text
