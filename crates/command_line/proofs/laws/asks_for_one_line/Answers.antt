use Rattle.command_line.proofs.OneLines.{one_line}
use Rattle.command_line.proofs.laws.asks_for_one_line.Goals as goal

pub returns : goal.returns
returns c = one_line
