use Rattle.std.proofs.Common.{◌≡◌, drop, take, map, ◌++◌, neg_ℤ}
use Rattle.poly_num.proofs.vectors.negate.Given as goal

abbrev pub invariant-loop-x : goal.invariant-loop-x
invariant-loop-x l = l.v ≡ map neg_ℤ (take l.x-index l.initial.v) ++ drop l.x-index l.initial.v
