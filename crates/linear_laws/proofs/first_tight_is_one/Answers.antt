use Rattle.linear_laws.proofs.TightLists.{first_tight_is_one}
use Rattle.linear_laws.proofs.first_tight_is_one.Goals as goal

pub returns : goal.returns
returns c = first_tight_is_one
