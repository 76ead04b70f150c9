use Rattle.std.proofs.Common.{◌≤◌}
use Rattle.poly_model.specs.Spaces.{Space}
use Rattle.search_laws.specs.Lowering.{HasEnd}
use Rattle.phase_one.specs.Lowering.{MayLower, IsOnDescent}
use Rattle.phase_one.proofs.lowering.lower_t.Given as goal

-- in each space in which it began, the dictionary is reached, and the steps that are left are fewer than the counter says
abbrev pub invariant-steps : goal.invariant-steps
invariant-steps g l =
    (first : Space) → MayLower first l.order → IsOnDescent first l.order l.fn.dict →
    IsOnDescent first l.order l.dict × ((e : HasEnd first l.order 0 l.dict.key) → e.steps ≤ l.left)

abbrev pub decreases-steps : goal.decreases-steps
decreases-steps g l = l.left
