use Rattle.coordinator_laws.proofs.CourseLaws.{restarts_keep_legal}
use Rattle.coordinator_laws.proofs.laws.restarts_keep_legal.Goals as goal

pub returns : goal.returns
returns c = restarts_keep_legal
