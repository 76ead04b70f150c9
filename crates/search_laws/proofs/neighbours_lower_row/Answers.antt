use Rattle.search_laws.proofs.Lowered.{lowers_row}
use Rattle.search_laws.proofs.neighbours_lower_row.Goals as goal

pub returns : goal.returns
returns c = λ space root key t d q s l c h. lowers_row space root key t d q l s c h
