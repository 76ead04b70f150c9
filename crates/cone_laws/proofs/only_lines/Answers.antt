use Rattle.cone_laws.proofs.ColumnLemmas.{zero_from_tight}
use Rattle.cone_laws.proofs.OppositeLemmas.{zero_from_opposite}
use Rattle.cone_laws.proofs.only_lines.Goals as goal

pub returns : goal.returns
returns c = record { vanishing = zero_from_tight; opposite = zero_from_opposite }
