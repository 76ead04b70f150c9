use Rattle.plain_enum.proofs.ConeVectors.{values_at_columns}
use Rattle.plain_enum.proofs.values_at_columns.Goals as goal

pub returns : goal.returns
returns c = values_at_columns
