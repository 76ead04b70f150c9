use Rattle.std.proofs.Common.{ℕ, ◌<◌, get_or}
use Rattle.lexmin_test.specs.Settled.{IsZeroIfEarlier}
use Rattle.lexmin_test.proofs.word_points.is_zero_before.Given as goal

abbrev pub invariant-columns : goal.invariant-columns
invariant-columns l =
    (j : ℕ) → j < l.j → IsZeroIfEarlier l.table.dict.now l.table.order.now l.row (get_or l.table.dict.now.columns j 0)
