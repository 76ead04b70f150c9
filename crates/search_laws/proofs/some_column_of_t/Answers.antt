use Rattle.search_laws.proofs.PhaseEnds.{some_column}
use Rattle.search_laws.proofs.some_column_of_t.Goals as goal

pub returns : goal.returns
returns c = some_column
