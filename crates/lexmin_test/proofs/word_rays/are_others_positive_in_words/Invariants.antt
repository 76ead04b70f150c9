use Rattle.std.proofs.Common.{ℕ, ◌<◌, get_or}
use Rattle.lexmin_test.specs.Zeros.{IsOtherPositive}
use Rattle.lexmin_test.proofs.word_rays.are_others_positive_in_words.Given as goal

abbrev pub invariant-columns : goal.invariant-columns
invariant-columns l =
    (j : ℕ) → j < l.j → IsOtherPositive l.table.dict.now l.table.order.now l.col (get_or l.table.dict.now.columns j 0)
