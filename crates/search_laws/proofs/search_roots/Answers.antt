use Rattle.search_laws.proofs.SearchRoots.{has_search_root}
use Rattle.search_laws.proofs.search_roots.Goals as goal

pub returns : goal.returns
returns c = has_search_root
