use Rattle.std.proofs.Common.{rules, ◌≡◌, ◌<◌, length, set, refl, sym, ap, ap₂, subst, ◌∙◌, arith}
use Rattle.reverse_step.specs.declared.slots.Slot.{Slot}
use Rattle.reverse_step.specs.Walks.{Walk}
use Rattle.reverse_step.specs.Rings.{kept_parents, before_in_ring}
use Rattle.reverse_step.specs.Children.{LeadsToChild}
use Rattle.reverse_step.specs.Moves.{IsMovedDown}
use Rattle.lex_pivot.proofs.PivotLemmas.{can_leave}
use Rattle.reverse_step.proofs.RingLemmas.{ring_set, down_to, parents-same, stands}
use Rattle.reverse_step.proofs.walker.Walker.descend.Goals as goal

pub pivot_over-requires-clause-can : goal.pivot_over-requires-clause-can
pivot_over-requires-clause-can g c =
    let leads = subst (λ (w : Walk). LeadsToChild w.root w.dict c.args.col c.args.row) (sym c.self.view_is) c.requires in
    can_leave c.self.inside.here.dict.value c.self.inside.order c.args.col c.args.row leads.column leads.leaves

pub invariant_of-self : goal.invariant_of-self
invariant_of-self g c =
    let a = c.self.inside in
    let e = c.pivot_over.ensures in
    let count : c.len-in-Ok.result ≡ length a.slots.items = search rules in
    let place : c.place_after-next.result < length a.slots.items = search rules in
    let more = c.one_more-self-inside.ensures in
    ring_set a.here c.pivot_over.new.here a.slots.items a.last a.known a.order c.self.invariant c.place_after-next.result
    c.pivot_over.new.next c.place_after-next.result c.one_more-self-inside.result e.alike e.leads e.next place
    (let m = more.within in omega (arith, m, count))

pub invariant_of-self-in-Err : goal.invariant_of-self-in-Err
invariant_of-self-in-Err g c =
    let a = c.self.inside in
    let e = c.pivot_over.ensures in
    ring_set a.here c.pivot_over.new.here a.slots.items a.last a.known a.order c.self.invariant c.place_after-next.result
    c.pivot_over.new.next a.last a.known e.alike e.leads e.next c.self.invariant.within c.self.invariant.few

pub returns-in-Ok-clause-down : goal.returns-in-Ok-clause-down
returns-in-Ok-clause-down g c =
    let a = c.self.inside in
    let slots = a.slots.items in
    let now = c.pivot_over.new.here.dict.value in
    let next = c.place_after-next.result in
    let slot = c.pivot_over.new.next in
    let old : Walk = record { dict = a.here.dict.value; root = a.order; job = a.job; at = a.at; parents = kept_parents slots a.last a.known } in
    let new : Walk = record { dict = now; root = a.order; job = a.job; at = 0; parents = kept_parents (set slots next slot) next c.one_more-self-inside.result } in
    let first : c.len.result ≡ length slots = search rules in
    let count : c.len-in-Ok.result ≡ length slots = search rules in
    let behind : before_in_ring (length slots) next ≡ a.last =
    ap (λ n. before_in_ring n next) (sym first) ∙ c.place_after-next.ensures.behind in
    let place : next < length slots = search rules in
    let more = c.one_more-self-inside.ensures in
    subst (λ (w : Walk). IsMovedDown w c.args.row c.args.col new) c.self.view_is
    (down_to old slots a.last a.known refl c.self.invariant.few now c.args.row c.args.col c.in-Ok.ensures.pivoted next
    c.one_more-self-inside.result slot place behind more.some (let m = more.within in omega (arith, m, count)) more.more
    c.in-Ok.ensures.parent)

pub returns-in-Err-clause-unchanged : goal.returns-in-Err-clause-unchanged
returns-in-Err-clause-unchanged g c =
    let a = c.self.inside in
    let place : c.place_after-next.result < length a.slots.items = search rules in
    ap₂ (λ (s : Slot) ps. stands a.order a.job a.at s ps) c.in-Err.ensures.unchanged.0
    (parents-same a.slots.items c.place_after-next.result a.last a.known c.pivot_over.new.next c.index_mut.result.now place
    c.index_mut.ensures.value c.in-Err.ensures.unchanged.1)
    ∙ c.self.view_is
