-- The numbers of a run under way.
use Rattle.std.specs.Prelude.{◌*◌, ◌≤◌}
use Rattle.poly_model.specs.declared.listed.Count.{Count}
use Rattle.work_core.specs.Splits.{most_bases}
use Rattle.subtree_work.specs.declared.progress.Progress.{Progress}

-- each base shows a row at most for the point and for each label of a row, and gives back a key at most for each label
-- of a row
pub record HasFewLines (c : Count) : Type 0 where
  pub rows : c.rows ≤ 8193 * c.bases
  pub jobs : c.jobs ≤ 8192 * c.bases

-- no deeper than bases were visited, and these are not too many
pub record IsInReach (so_far : Progress) : Type 0 where
  pub sum : HasFewLines so_far.count
  pub deep : so_far.depth ≤ so_far.count.bases
  pub few : so_far.count.bases ≤ most_bases
