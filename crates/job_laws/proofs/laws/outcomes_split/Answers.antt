use Rattle.job_laws.proofs.SplitOutcomes.{outcomes_split}
use Rattle.job_laws.proofs.laws.outcomes_split.Goals as goal

pub returns : goal.returns
returns c = outcomes_split
