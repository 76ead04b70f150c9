use Rattle.std.proofs.Common.{◌≡◌, ◌∙◌, sym, ap, Some, slice_get, ℕ, List, subst, IfSome}
use Rattle.run_state.specs.KeyLists.{holds}
use Rattle.run_state.specs.Known.{labels_in}
use Rattle.run_state.proofs.KeyListLemmas.{not_held}
use Rattle.run_state.proofs.KnownLemmas.{any-holds, found-at, none-some}
use Rattle.run_state.proofs.known.place_of.Goals as goal

pub returns-clause-some : goal.returns-clause-some
returns-clause-some c =
    subst (λ (k : List ℕ). IfSome c.get_index_of.result (λ i. slice_get (labels_in c.args.known.now.keys) i ≡ Some k)) c.labels.ensures.value
    (found-at c.args.known.now.keys c.labels.result.now c.get_index_of.result (sym c.get_index_of.ensures.index))

pub returns-clause-none : goal.returns-clause-none
returns-clause-none c n =
    not_held (labels_in c.args.known.now.keys) c.args.key.now
    (ap (holds (labels_in c.args.known.now.keys)) (sym c.labels.ensures.value) ∙ sym (any-holds c.args.known.now.keys c.labels.result.now)
    ∙ sym c.get_index_of.ensures.found ∙ none-some c.get_index_of.result n)
