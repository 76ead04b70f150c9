use Rattle.std.proofs.Common.{ℕ, ◌<◌, get_or}
use Rattle.lexmin_test.specs.Settled.{IsZeroIfEarlier}
use Rattle.lexmin_test.proofs.points.is_zero_before.Given as goal

abbrev pub invariant-columns : goal.invariant-columns
invariant-columns l = (j : ℕ) → j < l.col-index → IsZeroIfEarlier l.dict l.order l.row (get_or l.labels j 0)
