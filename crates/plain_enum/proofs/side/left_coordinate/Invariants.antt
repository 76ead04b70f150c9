use Rattle.std.proofs.Common.{IsNone, IfSome}
use Rattle.plain_enum.proofs.LeftCoordinates.{IsLastBefore, NoneBefore}
use Rattle.plain_enum.proofs.side.left_coordinate.Given as goal

-- what is found is the last one before this label, and where nothing is, there is none before it
abbrev pub invariant-labels : goal.invariant-labels
invariant-labels l =
    record {
      some : IfSome l.found (λ k. IsLastBefore l.free l.label-items l.label-index k);
      none : IsNone l.found → NoneBefore l.free l.label-items l.label-index;
    }
