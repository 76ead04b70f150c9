use Rattle.std.proofs.Common.{ℕ, ◌<◌, get_or}
use Rattle.lex_pivot.specs.Children.{EntersInPlace}
use Rattle.lex_pivot.proofs.word_child.none_enters_in_words.Given as goal

abbrev pub invariant-columns : goal.invariant-columns
invariant-columns l =
    (j : ℕ) → j < l.j → EntersInPlace l.table.dict.now l.table.order.now l.pivot.col l.pivot.row (get_or l.table.dict.now.columns j 0) → ⊥
