use Rattle.work_core.proofs.SubsetShares.{subset_walks_split}
use Rattle.work_core.proofs.SubtreeShares.{subtree_walks_split}
use Rattle.work_core.proofs.laws.walks_split.Goals as goal

pub returns-clause-subsets : goal.returns-clause-subsets
returns-clause-subsets c = subset_walks_split

pub returns-clause-subtrees : goal.returns-clause-subtrees
returns-clause-subtrees c = subtree_walks_split
