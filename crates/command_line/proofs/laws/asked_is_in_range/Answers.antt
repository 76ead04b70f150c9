use Rattle.command_line.proofs.InRange.{in_range}
use Rattle.command_line.proofs.laws.asked_is_in_range.Goals as goal

pub returns : goal.returns
returns c = in_range
