use Rattle.std.proofs.Common.{◌≡◌, List, ℕ}
use Rattle.coordinator_core.specs.declared.action.Action.TheVariants.{Finish}
use Rattle.coordinator_core.specs.Machine.{next_action}
use Rattle.coordinator.specs.Following.{AreOut, LeadsTo, most_actions}
use Rattle.coordinator.specs.Leaving.{Adds}
use Rattle.coordinator.proofs.following.follow.Given as goal

abbrev pub invariant-turns : goal.invariant-turns
invariant-turns g l =
    AreOut l.core (g.W.Workers.out l.workers)
    × ((texts : List (List ℕ)) × LeadsTo l.fn.core l.core (g.W.Workers.history l.fn.workers) (g.W.Workers.history l.workers) texts
    × Adds g.D.Disk l.fn.disk l.disk l.fn.ledger l.ledger texts)
    × (next_action l.fn.core ≡ Finish → (l.core ≡ l.fn.core) × (l.workers ≡ l.fn.workers))
    × (g.D.Disk.faults l.disk ≡ g.D.Disk.faults l.fn.disk)
    × (g.W.Workers.honest l.fn.workers → g.W.Workers.honest l.workers)

abbrev pub decreases-turns : goal.decreases-turns
decreases-turns g l = most_actions l.core l.ledger
