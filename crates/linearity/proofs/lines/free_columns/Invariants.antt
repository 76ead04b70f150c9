use Rattle.std.proofs.Common.{◌≡◌, take}
use Rattle.linearity.specs.Columns.{columns_in}
use Rattle.linearity.proofs.lines.free_columns.Given as goal

-- the columns of the labels before this one
abbrev pub invariant-labels : goal.invariant-labels
invariant-labels l = l.columns.items ≡ columns_in (take l.label-index l.label-items)
