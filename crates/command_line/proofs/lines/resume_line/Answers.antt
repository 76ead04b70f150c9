use Rattle.std.proofs.Common.{refl}
use Rattle.command_line.proofs.lines.resume_line.Goals as goal

pub returns-in_err-options-clause-none : goal.returns-in_err-options-clause-none
returns-in_err-options-clause-none c none ledger options says = c.in_err-options.ensures.none refl options says.1
