use Rattle.std.proofs.Common.{◌≡◌, take}
use Rattle.std.specs.List.{filter}
use Rattle.dictionary.specs.FirstPhase.{is_other}
use Rattle.dictionary.proofs.first_phase.without_t.Given as goal

abbrev pub invariant-labels : goal.invariant-labels
invariant-labels l = l.others.items ≡ filter is_other (take l.label-index l.labels)
