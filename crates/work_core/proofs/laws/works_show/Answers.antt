use Rattle.work_core.proofs.SubsetShares.{subsets_show}
use Rattle.work_core.proofs.SubtreeShares.{subtrees_show}
use Rattle.work_core.proofs.laws.works_show.Goals as goal

pub returns-clause-subsets : goal.returns-clause-subsets
returns-clause-subsets c = subsets_show

pub returns-clause-subtrees : goal.returns-clause-subtrees
returns-clause-subtrees c = subtrees_show
