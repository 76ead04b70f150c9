use Rattle.run_state.proofs.FollowLemmas.{run-first}
use Rattle.run_state.proofs.state.RunState.open.Goals as goal

pub returns-in-Ok-clause-ok : goal.returns-in-Ok-clause-ok
returns-in-Ok-clause-ok c = run-first c.args.payload.now _ c.in-Ok.run' c.in_ok-work.ensures.ok c.in-Ok.ensures
