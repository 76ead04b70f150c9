use Rattle.search_laws.proofs.WithoutT.{root_without_t}
use Rattle.search_laws.proofs.root_without_t.Goals as goal

pub returns : goal.returns
returns c = root_without_t
