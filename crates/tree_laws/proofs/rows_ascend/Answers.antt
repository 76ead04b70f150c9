use Rattle.tree_laws.proofs.AscendingRows.{main_rows_ascend, first_rows_ascend}
use Rattle.tree_laws.proofs.rows_ascend.Goals as goal

pub returns : goal.returns
returns c p free start = (main_rows_ascend p free, first_rows_ascend p free start)
