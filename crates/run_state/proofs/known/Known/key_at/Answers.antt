use Rattle.std.proofs.Common.{arith, ◌≡◌, ◌∙◌, ◌<◌, length, subst, ap, sym, vec_items, get_or}
use Rattle.std.proofs.lemmas.List.{length-map}
use Rattle.poly_model.specs.Keys.{IsKey}
use Rattle.run_state.specs.Known.{KeyTable, labels_in}
use Rattle.run_state.proofs.PlaceLemmas.{labels-at}
use Rattle.run_state.proofs.known.Known.key_at.Goals as goal

pub key_of-requires : goal.key_of-requires
key_of-requires c =
    let ks = c.self.inside.keys.keys in
    let same : labels_in ks ≡ c.args.self.now.came = ap (λ (z : KeyTable). z.came) c.self.view_is in
    let within : c.args.place < length ks = omega (arith, c.requires, ap length same, length-map ks vec_items) in
    let at : c.index-as_slice-place.result ≡ get_or ks c.args.place c.index-as_slice-place.result =
    c.index-as_slice-place.is ∙ ap (λ l. get_or l c.args.place c.index-as_slice-place.result) c.as_slice.ensures.keys in
    subst IsKey (sym c.as_slice-2.ensures.value) (c.self.invariant.are_keys (vec_items c.index-as_slice-place.result) (labels-at ks c.args.place c.index-as_slice-place.result at within))
