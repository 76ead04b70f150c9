use Rattle.std.proofs.Common.{ℕ, ◌<◌, get_or}
use Rattle.lexmin_test.specs.Settled.{RowShowsPoint}
use Rattle.lexmin_test.proofs.points.shows_point_in_wide.Given as goal

abbrev pub invariant-rows : goal.invariant-rows
invariant-rows l = (j : ℕ) → j < l.place → RowShowsPoint l.dict l.order (get_or l.dict.rows j 0)
