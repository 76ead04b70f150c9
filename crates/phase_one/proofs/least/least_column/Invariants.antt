use Rattle.std.proofs.Common.{take}
use Rattle.std.specs.Prelude.{IfSome}
use Rattle.std.specs.List.{Contains}
use Rattle.poly_model.specs.LexOrder.{rows_in}
use Rattle.phase_one.specs.SoFar.{IsLeastSoFar}
use Rattle.phase_one.specs.Columns.{HasSought, IsNotLater}
use Rattle.phase_one.proofs.least.least_column.Given as goal

abbrev pub invariant-columns : goal.invariant-columns
invariant-columns l =
    IfSome l.least (λ s. Contains (rows_in l.dict.labels) s)
    × IsLeastSoFar (HasSought l.dict l.sought) (IsNotLater l.dict.labels l.order) (take l.i l.labels) l.least
