use Rattle.std.proofs.Common.{ℕ, ◌<◌}
use Rattle.std.specs.List.{Contains}
use Rattle.subset_work.specs.Standing.{IsPlainRow}
use Rattle.subset_work.proofs.work.are_plain.Given as goal

-- the labels before this one are of rows that are not linear
abbrev pub invariant-labels : goal.invariant-labels
invariant-labels l = (k : ℕ) (c : Contains l.labels k) → c.0 < l.label-index → IsPlainRow l.sys k
