use Rattle.coordinator_laws.proofs.CourseLaws.{traces_tell_the_run}
use Rattle.coordinator_laws.proofs.laws.traces_tell_the_run.Goals as goal

pub returns : goal.returns
returns c = traces_tell_the_run
