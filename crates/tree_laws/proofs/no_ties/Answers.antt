use Rattle.tree_laws.proofs.Ties.{no_ties}
use Rattle.tree_laws.proofs.no_ties.Goals as goal

pub returns : goal.returns
returns c space root key home t h d i j o q n a b z = no_ties space root key home t h d i j o q n a b z
