use Rattle.hull_lift.proofs.ShownColumns.{shown_columns}
use Rattle.hull_lift.proofs.laws.shown_columns.Goals as goal

pub returns : goal.returns
returns c = shown_columns
