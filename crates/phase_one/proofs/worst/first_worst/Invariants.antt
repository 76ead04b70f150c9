use Rattle.std.proofs.Common.{take}
use Rattle.std.specs.Prelude.{IfSome}
use Rattle.std.specs.List.{Contains}
use Rattle.phase_one.specs.SoFar.{IsLeastSoFar}
use Rattle.phase_one.specs.Worst.{IsNegativeRow, IsWorse}
use Rattle.phase_one.proofs.worst.first_worst.Given as goal

abbrev pub invariant-rows : goal.invariant-rows
invariant-rows l =
    IfSome l.worst (λ r. Contains l.dict.labels r)
    × IsLeastSoFar (IsNegativeRow l.dict) (IsWorse l.dict) (take l.i l.labels) l.worst
