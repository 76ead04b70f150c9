use Rattle.linearity.proofs.LeftLines.{elimination_leaves_lines}
use Rattle.linearity.proofs.elimination_leaves_lines.Goals as goal

pub returns : goal.returns
returns c = elimination_leaves_lines
