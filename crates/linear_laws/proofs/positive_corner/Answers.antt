use Rattle.linear_laws.proofs.CornerLemmas.{positive_corner}
use Rattle.linear_laws.proofs.positive_corner.Goals as goal

pub returns : goal.returns
returns c n fixed rows form y pointed cone up = positive_corner n fixed rows form pointed y cone up
