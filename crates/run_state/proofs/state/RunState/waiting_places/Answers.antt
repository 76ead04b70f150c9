use Rattle.std.proofs.Common.{◌<◌, subst, ℕ, length, IfOk}
use Rattle.std.specs.List.{Contains}
use Rattle.run_state.specs.Runs.{Run}
use Rattle.run_state.proofs.state.RunState.waiting_places.Goals as goal

pub returns-clause-within : goal.returns-clause-within
returns-clause-within c =
    subst (λ (z : Run). IfOk c.waiting_places.result (λ places. (i : ℕ) → Contains places.items i → i < length z.came)) c.self.view_is c.waiting_places.ensures.within
