use Rattle.std.proofs.Common.{◌≡◌, ◌<◌, length, subst, Some, slice_get, List, ℕ, Bool, ap, sym}
use Rattle.run_state.specs.KeyLists.{holds, key_at}
use Rattle.run_state.specs.Known.{KeyTable, labels_in}
use Rattle.run_state.proofs.PlaceLemmas.{done_mark}
use Rattle.run_state.proofs.known.Known.is_done.Goals as goal

pub returns : goal.returns
returns c =
    let same : labels_in c.self.inside.keys.keys ≡ c.args.self.now.came = ap (λ (z : KeyTable). z.came) c.self.view_is in
    let within : c.args.place < length (labels_in c.self.inside.keys.keys) = subst (λ (l : List (List ℕ)). c.args.place < length l) (sym same) c.requires in
    subst (λ (z : KeyTable). c.mark_at.result ≡ holds z.keys.done (key_at z.came c.args.place)) c.self.view_is
    (done_mark (labels_in c.self.inside.keys.keys) c.self.inside.done.marks.items c.self.inside.done.places.items c.self.invariant c.args.place c.mark_at.result within
    (subst (λ (l : List Bool). slice_get l c.args.place ≡ Some c.mark_at.result) c.deref.ensures.value c.mark_at.ensures))
