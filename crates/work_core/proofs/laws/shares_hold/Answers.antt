use Rattle.work_core.proofs.SubtreeShares.{shares_hold}
use Rattle.work_core.proofs.laws.shares_hold.Goals as goal

pub returns : goal.returns
returns c = shares_hold
