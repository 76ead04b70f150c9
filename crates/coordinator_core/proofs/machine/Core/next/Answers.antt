use Rattle.std.proofs.Common.{arith, ◌∙◌, ◌<◌, ◌+◌, ◌++◌, ◌∷◌, [], ℕ, List, sym, subst, vec_capacity}
use Rattle.run_state.proofs.PlacedElements.{member-at}
use Rattle.coordinator_core.specs.Places.{IsKept}
use Rattle.coordinator_core.specs.declared.sent.Sent.{Sent}
use Rattle.coordinator_core.proofs.KeptLemmas.{kept-handed, sent_out}
use Rattle.coordinator_core.proofs.machine.Core.next.Goals as goal

pub key_at-key-requires : goal.key_at-key-requires
key_at-key-requires c =
    c.self.invariant.queued c.in-Some.place (member-at c.self.inside.queue.items 0 c.in-Some.place (sym c.first_of.ensures ∙ c.in-Some.is))

pub invariant_of-self : goal.invariant_of-self
invariant_of-self c =
    let options = c.self.inside.options in
    let run = c.self.inside.run in
    let out = c.self.inside.out in
    let free : out < options.workers = omega arith in
    let more = c.self.inside.sent.items ++ sent_out c.in-Some.place (record { bases = options.bases; depth = c.if-few.depth }) ∷ [] in
    let k = kept-handed c.self.inside.options c.self.inside.run c.self.inside.queue.items c.self.inside.sent.items c.self.inside.out (vec_capacity c.self.inside.sent)
    c.in-Some.place _ c.self.invariant (sym c.first_of.ensures ∙ c.in-Some.is) free in
    let k1 = subst (λ (q : List ℕ). IsKept options run q more (out + 1) (vec_capacity c.self.inside.sent)) (sym c.pop_front.ensures.rest) k in
    let k2 = subst (λ (l : List Sent). IsKept options run c.pop_front.new.self.items l (out + 1) (vec_capacity c.self.inside.sent))
    (sym c.push_reserved.ensures.items) k1 in
    subst (λ (n : ℕ). IsKept options run c.pop_front.new.self.items c.push_reserved.new.self.items (out + 1) n)
    (sym c.push_reserved.ensures.capacity) k2
