use Rattle.search_laws.proofs.Children.{has_children}
use Rattle.search_laws.proofs.children_are_listed.Goals as goal

pub returns : goal.returns
returns c space root key home t distinct h f = has_children space root home h distinct key t f
