use Rattle.hull_lift.proofs.ColumnVectors.{column_vectors}
use Rattle.hull_lift.proofs.laws.column_vectors.Goals as goal

pub returns : goal.returns
returns c = column_vectors
