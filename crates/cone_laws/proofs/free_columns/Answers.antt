use Rattle.cone_laws.proofs.ColumnLemmas.{one_list_of_columns}
use Rattle.cone_laws.proofs.free_columns.Goals as goal

pub returns : goal.returns
returns c sys = one_list_of_columns sys
