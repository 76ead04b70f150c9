use Rattle.std.proofs.Common.{ℕ, ◌<◌, get_or}
use Rattle.lexmin_test.specs.Zeros.{IsOtherPositive}
use Rattle.lexmin_test.proofs.rays.are_others_positive.Given as goal

abbrev pub invariant-columns : goal.invariant-columns
invariant-columns l = (j : ℕ) → j < l.other-index → IsOtherPositive l.dict l.order l.col (get_or l.labels j 0)
