use Rattle.cone_laws.proofs.FaceLemmas.{extreme_by_rank}
use Rattle.cone_laws.proofs.OppositeLemmas.{same_from_tight}
use Rattle.cone_laws.proofs.extreme_by_tight_rows.Goals as goal

pub returns : goal.returns
returns c = record { rank = extreme_by_rank; one = λ sys y z. same_from_tight sys y z }
