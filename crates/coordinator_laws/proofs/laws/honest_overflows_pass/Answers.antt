use Rattle.coordinator_laws.proofs.CourseLaws.{honest_overflows_pass}
use Rattle.coordinator_laws.proofs.laws.honest_overflows_pass.Goals as goal

pub returns : goal.returns
returns c = honest_overflows_pass
