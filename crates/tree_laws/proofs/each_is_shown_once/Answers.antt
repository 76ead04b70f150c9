use Rattle.tree_laws.proofs.ShownOnce.{shown_once}
use Rattle.tree_laws.proofs.each_is_shown_once.Goals as goal

pub returns : goal.returns
returns c space root home h distinct y extreme = shown_once space root home y extreme h distinct
