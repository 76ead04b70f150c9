use Rattle.std.proofs.Common.{◌≡◌, ◌∙◌, sym, subst, refl, Some, None, Option, List, IfSome}
use Rattle.coordinator_core.specs.declared.sent.Sent.{Sent}
use Rattle.coordinator_core.specs.declared.verdict.Verdict.TheVariants.{Accepted, Loss}
use Rattle.coordinator_core.specs.Machine.{Attempt, State, sent_at}
use Rattle.coordinator_core.specs.Places.{IsDueAt, IsSettledReply, attempt_at, sent_numbered}
use Rattle.coordinator_core.proofs.KeptLemmas.{place-member, sent-none, sent-some}
use Rattle.coordinator_core.proofs.machine.Core.look.Goals as goal

pub first_look-requires : goal.first_look-requires
first_look-requires c =
    let at : sent_numbered c.self.inside.sent.items c.args.attempt ≡ Some c.in-Some.sent =
    subst (λ (l : List Sent). sent_numbered l c.args.attempt ≡ Some c.in-Some.sent) c.deref.ensures.value (sym c.attempt_at.ensures ∙ c.in-Some.is) in
    c.self.invariant.handed c.in-Some.sent (place-member c.self.inside.sent.items c.args.attempt c.in-Some.sent at)

pub returns-in-Some-clause-some : goal.returns-in-Some-clause-some
returns-in-Some-clause-some c =
    let at : sent_numbered c.self.inside.sent.items c.args.attempt ≡ Some c.in-Some.sent =
    subst (λ (l : List Sent). sent_numbered l c.args.attempt ≡ Some c.in-Some.sent) c.deref.ensures.value (sym c.attempt_at.ensures ∙ c.in-Some.is) in
    subst (λ (z : State). IfSome c.first_look.result (IsSettledReply z.run c.args.reply.now (sent_at z c.args.attempt))) c.self.view_is
    (subst (λ (o : Option Attempt). IfSome c.first_look.result (IsSettledReply c.self.inside.run c.args.reply.now o))
    (sym (sent-some c.self.inside.options c.self.inside.run c.self.inside.queue.items c.self.inside.sent.items c.self.inside.losses c.self.inside.strays c.args.attempt c.in-Some.sent at)) c.first_look.ensures.some)

pub returns-in-Some-clause-none : goal.returns-in-Some-clause-none
returns-in-Some-clause-none c none =
    let at : sent_numbered c.self.inside.sent.items c.args.attempt ≡ Some c.in-Some.sent =
    subst (λ (l : List Sent). sent_numbered l c.args.attempt ≡ Some c.in-Some.sent) c.deref.ensures.value (sym c.attempt_at.ensures ∙ c.in-Some.is) in
    subst (λ (z : State). IsDueAt z c.args.attempt c.args.reply.now) c.self.view_is (record {
      which = attempt_at c.self.inside.run.came c.in-Some.sent;
      is_sent = sent-some c.self.inside.options c.self.inside.run c.self.inside.queue.items c.self.inside.sent.items c.self.inside.losses c.self.inside.strays c.args.attempt c.in-Some.sent at;
      due = c.first_look.ensures.none none;
    })

pub returns-in-None-clause-some : goal.returns-in-None-clause-some
returns-in-None-clause-some c =
    let at : sent_numbered c.self.inside.sent.items c.args.attempt ≡ None =
    subst (λ (l : List Sent). sent_numbered l c.args.attempt ≡ None) c.deref.ensures.value (sym c.attempt_at.ensures ∙ c.in-None.is) in
    subst (λ (z : State). IsSettledReply z.run c.args.reply.now (sent_at z c.args.attempt) Loss) c.self.view_is
    (subst (λ (o : Option Attempt). IsSettledReply c.self.inside.run c.args.reply.now o Loss)
    (sym (sent-none c.self.inside.options c.self.inside.run c.self.inside.queue.items c.self.inside.sent.items c.self.inside.losses c.self.inside.strays c.args.attempt at))
    (record { is = refl; refused = λ e. let q : Loss ≡ Accepted = e in cc }))
