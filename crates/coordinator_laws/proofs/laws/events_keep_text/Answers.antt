use Rattle.coordinator_laws.proofs.CourseLaws.{events_keep_text}
use Rattle.coordinator_laws.proofs.laws.events_keep_text.Goals as goal

pub returns : goal.returns
returns c = events_keep_text
