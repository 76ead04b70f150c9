use Rattle.job_laws.proofs.Branches.{works_have_branches}
use Rattle.job_laws.proofs.laws.works_have_branches.Goals as goal

pub returns : goal.returns
returns c = works_have_branches
