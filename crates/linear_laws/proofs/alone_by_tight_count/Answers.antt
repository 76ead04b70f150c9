use Rattle.linear_laws.proofs.TightLists.{alone_by_tight_count}
use Rattle.linear_laws.proofs.alone_by_tight_count.Goals as goal

pub returns : goal.returns
returns c = alone_by_tight_count
