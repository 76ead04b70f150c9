use Rattle.job_laws.proofs.RunsInSpaces.{runs_in_space_are_runs}
use Rattle.job_laws.proofs.laws.runs_in_space_are_runs.Goals as goal

pub returns : goal.returns
returns c = runs_in_space_are_runs
