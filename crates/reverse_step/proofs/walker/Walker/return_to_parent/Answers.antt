use Rattle.std.proofs.Common.{rules, ◌≡◌, ◌-◌, get_or, ◌+◌, ◌<◌, length, set, sym, ap, subst, ◌∙◌, arith}
use Rattle.dictionary_laws.specs.Keys.{place_in}
use Rattle.dictionary.specs.Views.{Dictionary}
use Rattle.reverse_step.specs.declared.slots.Slot.{Slot}
use Rattle.reverse_step.specs.Walks.{Walk}
use Rattle.reverse_step.specs.Rings.{kept_parents, no_parent, before_in_ring}
use Rattle.reverse_step.specs.Moves.{IsBackAtParent, KnowsParent}
use Rattle.reverse_step.proofs.RingLemmas.{back_of, length-going_back, slot_there}
use Rattle.reverse_step.proofs.walker.Walker.return_to_parent.Goals as goal

pub returns : goal.returns
returns c =
    let a = c.self.inside in
    let slots = a.slots.items in
    let ring = c.self.invariant in
    let slot : Slot = c.swap.new.x in
    let old : Walk = record { dict = a.here.dict.value; root = a.order; job = a.job; at = a.at; parents = kept_parents slots a.last a.known } in
    let known : length old.parents ≡ a.known = length-going_back no_parent _ a.last a.known in
    let some : 0 < length old.parents = subst (λ (w : Walk). KnowsParent w) (sym c.self.view_is) c.requires in
    let is : slot ≡ get_or slots a.last slot =
    subst (λ (s : Slot). s ≡ get_or slots a.last s) (sym c.swap.ensures.x_after) c.index_mut.ensures.value in
    let there = slot_there a.here.dict.value a.order slots a.last slot ring.each ring.within is in
    let count : c.len.result ≡ length slots = search rules in
    let before = c.place_before-self-inside.ensures.value ∙ ap (λ n. before_in_ring n a.last) count in
    let place = ap (λ n. n + 1) (c.place_of.ensures.value
    ∙ ap (λ ks. place_in ks slot.column) (c.cobasis.ensures.value ∙ ap (λ (d : Dictionary). d.key) c.deref.ensures)) in
    let new : Walk = record { dict = slot.dict.value; root = a.order; job = a.job; at = c.place_of.result + 1; parents = kept_parents (set slots a.last c.swap.new.y) c.place_before-self-inside.result (a.known - 1) } in
    subst (λ (w : Walk). IsBackAtParent w slot.column new) c.self.view_is
    (back_of a.here.dict.value a.order a.job a.at slots a.last a.known ring.within ring.few (omega (arith, known, some)) slot
    c.swap.new.y is c.place_before-self-inside.result before (c.place_of.result + 1) place there.alike.phase)
