use Rattle.std.proofs.Common.{◌≡◌, ◌++◌, [], take}
use Rattle.std.specs.Prelude.{not, ◌&&◌}
use Rattle.std.specs.List.{filter}
use Rattle.dictionary.specs.MainPhase.{stays_in}
use Rattle.dictionary.proofs.main_phase.push_leaving.Given as goal

abbrev pub invariant-labels : goal.invariant-labels
invariant-labels l =
    l.kept.items
    ≡ l.fn.kept.items
    ++ filter (λ k. stays_in l.sys.rows [] k && not (stays_in l.sys.rows l.free k)) (take l.label-index l.labels)
