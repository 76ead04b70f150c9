use Rattle.tree_laws.proofs.Chains.{under_the_root}
use Rattle.tree_laws.proofs.under_the_root.Goals as goal

pub returns : goal.returns
returns c space root key home t h f = under_the_root space root home h key t f
