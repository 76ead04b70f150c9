use Rattle.std.proofs.Common.{◌≡◌, ◌+◌, drop}
use Rattle.poly_model.specs.Keys.{lower_of}
use Rattle.poly_model.proofs.key.lower.Given as goal

abbrev pub invariant-loop-i : goal.invariant-loop-i
invariant-loop-i l = lower_of l.label l.labels ≡ l.i + lower_of l.label (drop l.i l.labels)
