use Rattle.std.proofs.Common.{rules, ◌≡◌, [], ◌+◌, ◌<◌, length, set, refl, sym, ap, ap₂, subst, ◌∙◌}
use Rattle.dictionary_laws.specs.Keys.{place_in}
use Rattle.dictionary.specs.Views.{Dictionary}
use Rattle.lex_pivot.specs.Above.{LeadsToParent}
use Rattle.lex_pivot.proofs.PivotLemmas.{can_leave}
use Rattle.reverse_step.specs.declared.slots.Slot.{Slot}
use Rattle.reverse_step.specs.Walks.{Walk}
use Rattle.reverse_step.specs.Rings.{kept_parents}
use Rattle.reverse_step.specs.Moves.{moved_to, IsMovedUp}
use Rattle.reverse_step.proofs.NextLemmas.{up_pivot}
use Rattle.reverse_step.proofs.RingLemmas.{ring_set, parents-same, stands, none_known, none_kept}
use Rattle.reverse_step.proofs.walker.Walker.pivot_to_parent.Goals as goal

pub pivot_over-requires-clause-can : goal.pivot_over-requires-clause-can
pivot_over-requires-clause-can g c =
    let p = c.args.pivot in
    let h = subst (λ (w : Walk). LeadsToParent w.dict w.root p.col p.row) (sym c.self.view_is) c.requires.leads in
    can_leave c.self.inside.here.dict.value c.self.inside.order p.col p.row h.column h.leaves

pub invariant_of-self : goal.invariant_of-self
invariant_of-self g c =
    let a = c.self.inside in
    let e = c.pivot_over.ensures in
    ring_set a.here c.pivot_over.new.here a.slots.items a.last a.known a.order c.self.invariant c.place_after-next.result
    c.pivot_over.new.next a.last a.known e.alike e.leads e.next c.self.invariant.within c.self.invariant.few

pub invariant_of-self-in-Err : goal.invariant_of-self-in-Err
invariant_of-self-in-Err g c =
    let a = c.self.inside in
    let e = c.pivot_over.ensures in
    ring_set a.here c.pivot_over.new.here a.slots.items a.last a.known a.order c.self.invariant c.place_after-next.result
    c.pivot_over.new.next a.last a.known e.alike e.leads e.next c.self.invariant.within c.self.invariant.few

pub returns-in-Ok-clause-up : goal.returns-in-Ok-clause-up
returns-in-Ok-clause-up g c =
    let a = c.self.inside in
    let p = c.args.pivot in
    let slots = a.slots.items in
    let now = c.pivot_over.new.here.dict.value in
    let old : Walk = record { dict = a.here.dict.value; root = a.order; job = a.job; at = a.at; parents = kept_parents slots a.last a.known } in
    let h = subst (λ (w : Walk). LeadsToParent w.dict w.root p.col p.row) (sym c.self.view_is) c.requires.leads in
    let none : old.parents ≡ [] = subst (λ (w : Walk). w.parents ≡ []) (sym c.self.view_is) c.requires.none in
    let up = up_pivot old now p.col p.row none h c.in-Ok.ensures.pivoted in
    let place : c.place_of.result + 1 ≡ place_in now.key p.row + 1 = ap (λ n. n + 1) (c.place_of.ensures.value
    ∙ ap (λ ks. place_in ks p.row) (c.cobasis.ensures.value ∙ ap (λ (d : Dictionary). d.key) c.deref.ensures)) in
    let kept = none_kept (set slots c.place_after-next.result c.pivot_over.new.next) a.last a.known
    (none_known slots a.last a.known none) in
    let same = ap₂ (λ n ps. moved_to old now n ps) place kept in (
      refl,
      subst (λ (w : Walk). IsMovedUp w p.row (moved_to old now (c.place_of.result + 1)
          (kept_parents (set slots c.place_after-next.result c.pivot_over.new.next) a.last a.known))) c.self.view_is
          (subst (λ (w : Walk). IsMovedUp old p.row w) (sym same) up),
    )

pub returns-in-Err-clause-unchanged : goal.returns-in-Err-clause-unchanged
returns-in-Err-clause-unchanged g c =
    let a = c.self.inside in
    let place : c.place_after-next.result < length a.slots.items = search rules in
    ap₂ (λ (s : Slot) ps. stands a.order a.job a.at s ps) c.in-Err.ensures.unchanged.0
    (parents-same a.slots.items c.place_after-next.result a.last a.known c.pivot_over.new.next c.index_mut.result.now place
    c.index_mut.ensures.value c.in-Err.ensures.unchanged.1)
    ∙ c.self.view_is
