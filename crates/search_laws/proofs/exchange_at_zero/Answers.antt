use Rattle.search_laws.proofs.PhaseEnds.{exchange_at_zero}
use Rattle.search_laws.proofs.exchange_at_zero.Goals as goal

pub returns : goal.returns
returns c = exchange_at_zero
