use Rattle.std.proofs.Common.{◌≡◌, ◌+◌, drop}
use Rattle.dictionary_laws.specs.Keys.{place_in}
use Rattle.reverse_step.proofs.walker.place_of.Given as goal

abbrev pub invariant-labels : goal.invariant-labels
invariant-labels l = place_in l.labels l.label ≡ l.i + place_in (drop l.i l.labels) l.label
