use Rattle.search_laws.proofs.FeasibleFiles.{main_has_no_row_zero}
use Rattle.search_laws.proofs.main_has_no_row_zero.Goals as goal

pub returns : goal.returns
returns c = main_has_no_row_zero
