use Rattle.std.proofs.Common.{ℕ, ◌<◌, get_or}
use Rattle.lex_pivot.specs.Above.{EntersOn}
use Rattle.lex_pivot.proofs.parents.first_on.Given as goal

abbrev pub invariant-columns : goal.invariant-columns
invariant-columns l = (j : ℕ) → j < l.col-index → EntersOn l.dict l.order l.inside (get_or l.labels j 0) → ⊥
