use Rattle.work_core.proofs.KeyLaws.{shares_are_extreme, keys_are_of_rows}
use Rattle.work_core.proofs.laws.shares_are_of_vectors.Goals as goal

pub returns-clause-vectors : goal.returns-clause-vectors
returns-clause-vectors c = shares_are_extreme

pub returns-clause-keys : goal.returns-clause-keys
returns-clause-keys c = keys_are_of_rows
