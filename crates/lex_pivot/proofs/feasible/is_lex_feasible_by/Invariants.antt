use Rattle.std.proofs.Common.{ℕ, ◌<◌, get_or}
use Rattle.lex_pivot.specs.Feasible.{IsListPositive}
use Rattle.lex_pivot.proofs.feasible.is_lex_feasible_by.Given as goal

abbrev pub invariant-rows : goal.invariant-rows
invariant-rows l = (j : ℕ) → j < l.row-index → IsListPositive l.dict l.order (get_or l.labels j 0)
