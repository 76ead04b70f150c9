use Rattle.search_laws.proofs.RootShare.{shows_once}
use Rattle.search_laws.proofs.shares_once.Goals as goal

pub returns : goal.returns
returns c space root home distinct h = shows_once space root home h distinct
