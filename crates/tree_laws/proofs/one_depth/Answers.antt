use Rattle.tree_laws.proofs.Chains.{one_depth}
use Rattle.tree_laws.proofs.one_depth.Goals as goal

pub returns : goal.returns
returns c space root key home t distinct h f m n a b = one_depth space root home h distinct m n key t f a b
