use Rattle.job_text.proofs.JobLaws.{one_job}
use Rattle.job_text.proofs.laws.one_job.Goals as goal

pub returns : goal.returns
returns c text a b u w = one_job a b text u w
