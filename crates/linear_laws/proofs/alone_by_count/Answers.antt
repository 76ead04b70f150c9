use Rattle.linear_laws.proofs.Alone.{alone_by_first_basis}
use Rattle.linear_laws.proofs.alone_by_count.Goals as goal

pub returns : goal.returns
returns c = alone_by_first_basis
