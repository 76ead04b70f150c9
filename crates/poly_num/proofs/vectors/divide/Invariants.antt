use Rattle.std.proofs.Common.{◌≡◌, ◌++◌, map, take, drop}
use Rattle.std.specs.Prelude.{int_div}
use Rattle.poly_num.proofs.vectors.divide.Given as goal

abbrev pub invariant-loop-x : goal.invariant-loop-x
invariant-loop-x l = l.v ≡ map (λ z. int_div z l.d) (take l.x-index l.initial.v) ++ drop l.x-index l.initial.v
