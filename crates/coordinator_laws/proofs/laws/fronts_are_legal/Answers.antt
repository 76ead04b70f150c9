use Rattle.coordinator_laws.proofs.CourseLaws.{fronts_are_legal}
use Rattle.coordinator_laws.proofs.laws.fronts_are_legal.Goals as goal

pub returns : goal.returns
returns c = fronts_are_legal
