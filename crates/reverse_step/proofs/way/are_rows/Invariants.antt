use Rattle.std.proofs.Common.{ℕ, ◌<◌, get_or}
use Rattle.std.specs.List.{Contains}
use Rattle.poly_model.specs.LexOrder.{rows_in}
use Rattle.reverse_step.proofs.way.are_rows.Given as goal

abbrev pub invariant-labels : goal.invariant-labels
invariant-labels l = (j : ℕ) → j < l.label-index → Contains (rows_in l.dict.labels) (get_or l.labels j 0)
