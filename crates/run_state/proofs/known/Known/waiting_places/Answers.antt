use Rattle.std.proofs.Common.{arith, ◌≡◌, ◌∙◌, ◌<◌, ap, subst, ℕ, List, map, length, IfOk, []}
use Rattle.std.specs.List.{Contains}
use Rattle.std.proofs.lemmas.Result.{IfOk-weaker}
use Rattle.run_state.specs.Known.{KeyTable, labels_in, places_without}
use Rattle.run_state.specs.KeyLists.{StandApart, key_at}
use Rattle.run_state.proofs.WaitingLemmas.{stand_apart}
use Rattle.run_state.proofs.PlaceLemmas.{places-within, unmarked-places}
use Rattle.run_state.proofs.known.Known.waiting_places.Goals as goal

pub returns-clause-keys : goal.returns-clause-keys
returns-clause-keys c =
    subst (λ (z : KeyTable). IfOk c.places_left.result (λ places. map (key_at z.came) places.items ≡ z.keys.waiting)) c.self.view_is
    (IfOk-weaker c.places_left.result _ _
    (λ q e. ap (map (key_at (labels_in c.self.inside.keys.keys))) (e ∙ ap (places_without 0) c.deref.ensures.value)
    ∙ unmarked-places [] (labels_in c.self.inside.keys.keys) c.self.inside.done.marks.items c.self.invariant.size)
    c.places_left.ensures)

pub returns-clause-within : goal.returns-clause-within
returns-clause-within c =
    subst (λ (z : KeyTable). IfOk c.places_left.result (λ places. (i : ℕ) → Contains places.items i → i < length z.came)) c.self.view_is
    (IfOk-weaker c.places_left.result _ _
    (λ q e i m.
    let p = places-within 0 c.self.inside.done.marks.items i (subst (λ (l : List ℕ). Contains l i) (e ∙ ap (places_without 0) c.deref.ensures.value) m) in
    omega (arith, p, c.self.invariant.size))
    c.places_left.ensures)

pub returns-clause-apart : goal.returns-clause-apart
returns-clause-apart c =
    subst (λ (z : KeyTable). StandApart z.keys) c.self.view_is
    (stand_apart (labels_in c.self.inside.keys.keys) c.self.inside.done.marks.items c.self.inside.done.places.items c.self.invariant)
