use Rattle.std.proofs.Common.{◌≡◌, take}
use Rattle.std.specs.List.{filter}
use Rattle.dictionary.specs.MainPhase.{stays_in}
use Rattle.dictionary.proofs.main_phase.kept_labels.Given as goal

abbrev pub invariant-labels : goal.invariant-labels
invariant-labels l = l.kept.items ≡ filter (stays_in l.sys.rows l.free) (take l.label-index l.labels)
