-- The answers that phase one hands on.
use Rattle.std.proofs.Common.{◌≡◌, Err}
use Rattle.std.specs.Prelude.{IsErrOf}
use Rattle.poly_model.specs.declared.overflow.Overflow.{Overflow as Passed}
use Rattle.phase_one.specs.declared.stop.FirstStop.{FirstStop}
use Rattle.phase_one.specs.declared.stop.FirstStop.TheVariants.{Overflow}

pub same_overflow : {T : Type 0} (x o : Passed) → IsErrOf {T = T} {E = FirstStop} (Err (Overflow x)) (Overflow o) → x ≡ o
same_overflow x o h = cc
