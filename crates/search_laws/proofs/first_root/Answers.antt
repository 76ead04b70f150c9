use Rattle.search_laws.proofs.FirstRoots.{first_root}
use Rattle.search_laws.proofs.first_root.Goals as goal

pub returns : goal.returns
returns c = first_root
