use Rattle.search_laws.proofs.Visits.{are_split}
use Rattle.search_laws.proofs.runs_split.Goals as goal

pub returns : goal.returns
returns c space root home distinct h = are_split space root home h distinct
