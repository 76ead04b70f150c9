use Rattle.std.proofs.Common.{◌∙◌}
use Rattle.run_state.proofs.KnownLemmas.{any-holds}
use Rattle.run_state.proofs.known.is_known.Goals as goal

pub returns : goal.returns
returns c = c.contains.ensures ∙ any-holds c.args.known.now.keys c.args.key.now
