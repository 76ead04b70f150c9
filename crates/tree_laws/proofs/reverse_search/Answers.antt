use Rattle.tree_laws.proofs.ReverseSearch.{reverse_search}
use Rattle.tree_laws.proofs.reverse_search.Goals as goal

pub returns : goal.returns
returns c space root home distinct h = reverse_search space root home distinct h
