use Rattle.std.proofs.Common.{◌∙◌, ap, not}
use Rattle.run_state.specs.KeyLists.{holds}
use Rattle.run_state.specs.Known.{labels_in}
use Rattle.run_state.proofs.KnownLemmas.{any-holds}
use Rattle.run_state.proofs.known.add_key.Goals as goal

pub returns-clause-new : goal.returns-clause-new
returns-clause-new c =
    c.in_ok-added.ensures.added
    ∙ ap not (any-holds c.args.known.now.keys c.in_ok-labels.labels.items
    ∙ ap (holds (labels_in c.args.known.now.keys)) c.in_ok-labels.ensures.items)
