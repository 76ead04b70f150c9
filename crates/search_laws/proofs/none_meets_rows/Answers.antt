use Rattle.search_laws.proofs.PhaseEnds.{none_meets_rows}
use Rattle.search_laws.proofs.none_meets_rows.Goals as goal

pub returns : goal.returns
returns c = none_meets_rows
