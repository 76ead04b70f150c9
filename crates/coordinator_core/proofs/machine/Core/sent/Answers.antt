use Rattle.std.proofs.Common.{◌≡◌, ◌∙◌, sym, ap, subst, Some, List, ℕ}
use Rattle.coordinator_core.specs.Machine.{State, job_of, sent_at}
use Rattle.coordinator_core.specs.declared.sent.Sent.{Sent}
use Rattle.coordinator_core.specs.Places.{sent_numbered}
use Rattle.coordinator_core.proofs.KeptLemmas.{place-member, sent-some}
use Rattle.coordinator_core.proofs.machine.Core.sent.Goals as goal

pub key_at-requires : goal.key_at-requires
key_at-requires c =
    let at : sent_numbered c.self.inside.sent.items c.args.attempt ≡ Some c.in-Some.sent =
    subst (λ (l : List Sent). sent_numbered l c.args.attempt ≡ Some c.in-Some.sent) c.deref.ensures.value (sym c.attempt_at.ensures ∙ c.in-Some.is) in
    c.self.invariant.handed c.in-Some.sent (place-member c.self.inside.sent.items c.args.attempt c.in-Some.sent at)

pub returns : goal.returns
returns c =
    let at : sent_numbered c.self.inside.sent.items c.args.attempt ≡ Some c.in-Some.sent =
    subst (λ (l : List Sent). sent_numbered l c.args.attempt ≡ Some c.in-Some.sent) c.deref.ensures.value (sym c.attempt_at.ensures ∙ c.in-Some.is) in
    subst (λ (z : State). Some (c.key_at.result, c.in-Some.sent.budget) ≡ job_of (sent_at z c.args.attempt)) c.self.view_is
    (ap (λ (k : List ℕ). Some (k, c.in-Some.sent.budget)) c.key_at.ensures
    ∙ sym (ap job_of (sent-some c.self.inside.options c.self.inside.run c.self.inside.queue.items c.self.inside.sent.items c.self.inside.losses c.self.inside.strays c.args.attempt c.in-Some.sent at)))
