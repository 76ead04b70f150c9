use Rattle.search_laws.proofs.Lowered.{lowest_in_key}
use Rattle.search_laws.proofs.row_in_key_is_lowest.Goals as goal

pub returns : goal.returns
returns c = lowest_in_key
