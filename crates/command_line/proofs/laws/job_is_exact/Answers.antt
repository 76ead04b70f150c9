use Rattle.command_line.proofs.WordlessLines.{job_alone}
use Rattle.command_line.proofs.laws.job_is_exact.Goals as goal

pub returns : goal.returns
returns c = job_alone
