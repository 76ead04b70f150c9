use Rattle.command_line.proofs.WordlessLines.{convert_alone}
use Rattle.command_line.proofs.laws.convert_is_exact.Goals as goal

pub returns : goal.returns
returns c = convert_alone
