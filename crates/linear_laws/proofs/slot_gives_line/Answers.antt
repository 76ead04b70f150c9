use Rattle.linear_laws.proofs.LineLemmas.{line_from_slot}
use Rattle.linear_laws.proofs.slot_gives_line.Goals as goal

pub returns : goal.returns
returns c = line_from_slot
