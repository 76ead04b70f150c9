use Rattle.linear_laws.proofs.FreeLemmas.{free_columns_one_list}
use Rattle.linear_laws.proofs.free_columns_are_one_list.Goals as goal

pub returns : goal.returns
returns c = free_columns_one_list
