use Rattle.work_core.proofs.SubsetShares.{one_dimension_each, each_has_one_list}
use Rattle.work_core.proofs.laws.each_has_one_list.Goals as goal

pub returns-clause-dimension : goal.returns-clause-dimension
returns-clause-dimension c = one_dimension_each

pub returns-clause-list : goal.returns-clause-list
returns-clause-list c = each_has_one_list
