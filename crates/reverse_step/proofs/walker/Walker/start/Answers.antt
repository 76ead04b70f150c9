use Rattle.std.proofs.Common.{Bool, [], subst, arith}
use Rattle.reverse_step.specs.Walks.{Walk}
use Rattle.reverse_step.specs.Rings.{kept_parents}
use Rattle.reverse_step.specs.Ways.{Reaches}
use Rattle.reverse_step.specs.Starts.{IsAtKey}
use Rattle.reverse_step.proofs.RingLemmas.{ring_set}
use Rattle.reverse_step.proofs.StartLemmas.{at_key}
use Rattle.reverse_step.proofs.walker.Walker.start.Goals as goal

pub invariant_of-self : goal.invariant_of-self
invariant_of-self g c =
    let a = c.self.inside in
    let e = c.reach_over.ensures in
    ring_set a.here c.reach_over.new.here a.slots.items a.last a.known a.order c.self.invariant c.place_after-next.result
    c.reach_over.new.next a.last 0 e.alike e.leads e.next c.self.invariant.within (omega arith)

pub returns-then-branch-clause-start : goal.returns-then-branch-clause-start
returns-then-branch-clause-start g c =
    let a = c.self.inside in
    let key = c.args.key.now in
    let now = c.reach_over.new.here.dict.value in
    let walk : Walk = record { dict = a.here.dict.value; root = a.order; job = a.job; at = a.at; parents = kept_parents a.slots.items a.last a.known } in
    subst (λ (w : Walk). IsAtKey w key (record { dict = now; root = a.order; job = key; at = 0; parents = [] }))
    c.self.view_is
    (at_key walk now key
    (subst (λ (b : Bool). Reaches a.order a.here.dict.value key b now) c.if-branch.true
    c.in_ok-reach_over.ensures.reached))
