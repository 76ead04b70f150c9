use Rattle.search_laws.proofs.SubtreeRuns.{runs_part}
use Rattle.search_laws.proofs.runs_part_listings.Goals as goal

pub returns : goal.returns
returns c = runs_part
