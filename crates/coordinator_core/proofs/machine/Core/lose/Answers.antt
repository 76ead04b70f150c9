use Rattle.std.proofs.Common.{◌≡◌, ◌∙◌, ◌-◌, sym, ap, subst, Some, List, ℕ, vec_capacity}
use Rattle.std.proofs.lemmas.Option.{slice_get_within}
use Rattle.coordinator_core.specs.Machine.{IsOut, State, after_loss}
use Rattle.coordinator_core.specs.declared.sent.Sent.{Sent}
use Rattle.coordinator_core.specs.Places.{attempt_at, sent_numbered, state_of}
use Rattle.coordinator_core.proofs.KeptLemmas.{SameState, kept-ended, kept-same, lost-idle, lost-out, on_err, place-at, sent-some, some-out}
use Rattle.coordinator_core.proofs.machine.Core.lose.Goals as goal

pub returns-then-not-sent-clause-lost : goal.returns-then-not-sent-clause-lost
returns-then-not-sent-clause-lost c =
    let at : sent_numbered c.self.inside.sent.items c.args.attempt ≡ Some c.in-Some.sent =
    subst (λ (l : List Sent). sent_numbered l c.args.attempt ≡ Some c.in-Some.sent) c.deref.ensures.value (sym c.attempt_at.ensures ∙ c.in-Some.is) in
    subst (λ (z : State). SameState (state_of c.self.inside.options c.self.inside.run c.self.inside.queue.items c.self.inside.sent.items c.saturating_add-losses.result c.self.inside.strays) (after_loss z c.args.attempt)) c.self.view_is
    (ap (λ (n : ℕ). state_of c.self.inside.options c.self.inside.run c.self.inside.queue.items c.self.inside.sent.items n c.self.inside.strays) c.saturating_add-losses.ensures
    ∙ lost-idle c.self.inside.options c.self.inside.run c.self.inside.queue.items c.self.inside.sent.items c.self.inside.losses c.self.inside.strays c.args.attempt c.in-Some.sent at c.if-not-sent.true)

pub hand_back-requires : goal.hand_back-requires
hand_back-requires c =
    let at : sent_numbered c.self.inside.sent.items c.args.attempt ≡ Some c.in-Some.sent =
    subst (λ (l : List Sent). sent_numbered l c.args.attempt ≡ Some c.in-Some.sent) c.deref.ensures.value (sym c.attempt_at.ensures ∙ c.in-Some.is) in
    slice_get_within c.self.inside.sent.items (c.args.attempt - 1) c.in-Some.sent (place-at c.self.inside.sent.items c.args.attempt c.in-Some.sent at)

pub invariant_of-self-in_err-hand_back : goal.invariant_of-self-in_err-hand_back
invariant_of-self-in_err-hand_back c =
    kept-same c.self.inside.options c.self.inside.run c.self.inside.queue.items c.self.inside.sent.items c.self.inside.out (vec_capacity c.self.inside.sent)
    c.hand_back.new.queue.items c.hand_back.new.sent.items (vec_capacity c.hand_back.new.sent) c.self.invariant
    c.in_err-hand_back.ensures.same_queue c.in_err-hand_back.ensures.same_sent c.hand_back.ensures.capacity

pub returns-in_err-hand_back-clause-out : goal.returns-in_err-hand_back-clause-out
returns-in_err-hand_back-clause-out c =
    let at : sent_numbered c.self.inside.sent.items c.args.attempt ≡ Some c.in-Some.sent =
    subst (λ (l : List Sent). sent_numbered l c.args.attempt ≡ Some c.in-Some.sent) c.deref.ensures.value (sym c.attempt_at.ensures ∙ c.in-Some.is) in
    on_err c.from_residual.result (subst (λ (z : State). IsOut z c.args.attempt) c.self.view_is (record {
      which = attempt_at c.self.inside.run.came c.in-Some.sent;
      is_sent = sent-some c.self.inside.options c.self.inside.run c.self.inside.queue.items c.self.inside.sent.items c.self.inside.losses c.self.inside.strays c.args.attempt c.in-Some.sent at;
      is_out = c.if-not-sent.false;
    }))

pub overflow_sub-self : goal.overflow_sub-self
overflow_sub-self c =
    let at : sent_numbered c.self.inside.sent.items c.args.attempt ≡ Some c.in-Some.sent =
    subst (λ (l : List Sent). sent_numbered l c.args.attempt ≡ Some c.in-Some.sent) c.deref.ensures.value (sym c.attempt_at.ensures ∙ c.in-Some.is) in
    some-out c.self.inside.options c.self.inside.run c.self.inside.queue.items c.self.inside.sent.items c.self.inside.out (vec_capacity c.self.inside.sent) c.args.attempt c.in-Some.sent c.self.invariant at c.if-not-sent.false

pub invariant_of-self-2 : goal.invariant_of-self-2
invariant_of-self-2 c =
    let at : sent_numbered c.self.inside.sent.items c.args.attempt ≡ Some c.in-Some.sent =
    subst (λ (l : List Sent). sent_numbered l c.args.attempt ≡ Some c.in-Some.sent) c.deref.ensures.value (sym c.attempt_at.ensures ∙ c.in-Some.is) in
    kept-ended c.self.inside.options c.self.inside.run c.self.inside.queue.items c.self.inside.sent.items c.self.inside.out (vec_capacity c.self.inside.sent) c.args.attempt c.in-Some.sent
    c.hand_back.new.queue.items c.hand_back.new.sent.items (vec_capacity c.hand_back.new.sent) c.self.invariant at c.if-not-sent.false
    c.in_ok-hand_back.ensures.queue c.in_ok-hand_back.ensures.sent c.in_ok-hand_back.ensures.room

pub returns-clause-lost : goal.returns-clause-lost
returns-clause-lost c =
    let at : sent_numbered c.self.inside.sent.items c.args.attempt ≡ Some c.in-Some.sent =
    subst (λ (l : List Sent). sent_numbered l c.args.attempt ≡ Some c.in-Some.sent) c.deref.ensures.value (sym c.attempt_at.ensures ∙ c.in-Some.is) in
    let queue = c.hand_back.new.queue.items in
    let sent = c.hand_back.new.sent.items in
    let run = c.self.inside.run in
    subst (λ (z : State). SameState (state_of c.self.inside.options run queue sent c.saturating_add-losses.result c.self.inside.strays) (after_loss z c.args.attempt)) c.self.view_is
    (ap (λ (n : ℕ). state_of c.self.inside.options run queue sent n c.self.inside.strays) c.saturating_add-losses.ensures
    ∙ lost-out c.self.inside.options c.self.inside.run c.self.inside.queue.items c.self.inside.sent.items c.self.inside.losses c.self.inside.strays c.args.attempt c.in-Some.sent queue sent at c.if-not-sent.false
    c.in_ok-hand_back.ensures.queue c.in_ok-hand_back.ensures.sent)
