use Rattle.std.proofs.Common.{ℕ, ◌<◌, get_or}
use Rattle.lexmin_test.specs.Settled.{RowShowsPoint}
use Rattle.lexmin_test.proofs.word_points.shows_point_in_words.Given as goal

abbrev pub invariant-rows : goal.invariant-rows
invariant-rows l = (j : ℕ) → j < l.place → RowShowsPoint l.table.dict.now l.table.order.now (get_or l.table.dict.now.rows j 0)
