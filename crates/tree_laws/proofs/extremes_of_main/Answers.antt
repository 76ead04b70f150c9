use Rattle.tree_laws.proofs.MainExtremes.{extremes_of_main}
use Rattle.tree_laws.proofs.extremes_of_main.Goals as goal

pub returns : goal.returns
returns c p free f few y = extremes_of_main p free f few y
