use Rattle.std.proofs.Common.{ℕ, ◌<◌, get_or}
use Rattle.lex_pivot.specs.Children.{EntersInPlace}
use Rattle.lex_pivot.proofs.child.none_enters_in_wide.Given as goal

abbrev pub invariant-columns : goal.invariant-columns
invariant-columns l =
    (j : ℕ) → j < l.j → EntersInPlace l.dict l.order l.pivot.col l.pivot.row (get_or l.dict.columns j 0) → ⊥
