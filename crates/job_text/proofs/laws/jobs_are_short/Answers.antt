use Rattle.job_text.proofs.LengthLemmas.{job_is_short}
use Rattle.job_text.proofs.laws.jobs_are_short.Goals as goal

pub returns : goal.returns
returns c text job h = job_is_short job text h
