use Rattle.coordinator_laws.proofs.CourseLaws.{honest_is_accepted}
use Rattle.coordinator_laws.proofs.laws.honest_is_accepted.Goals as goal

pub returns : goal.returns
returns c = honest_is_accepted
