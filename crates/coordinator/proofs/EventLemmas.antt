-- Whatever bytes come for an attempt, they are an event.
use Rattle.std.proofs.Common.{ℕ, List, ◌≡◌, inl, inr, ◌<◌, ◌^◌, refl, sym, ap, ◌∙◌, length, Option, Some, None}
use Rattle.search_laws.proofs.OnceLists.{one_key_or_not}
use Rattle.job_text.specs.declared.reply.Reply.{Reply}
use Rattle.job_text.specs.Replies.{IsWholeReply}
use Rattle.job_text.proofs.OneReplyLemmas.{one_reply}
use Rattle.job_text.proofs.RepliesTried.{reply_known}
use Rattle.coordinator_core.specs.declared.event.Event.{Event}
use Rattle.coordinator_core.specs.declared.event.Event.TheVariants.{Answer, Lost}
use Rattle.coordinator_core.specs.Events.{IsEventOf}
use Rattle.coordinator_core.specs.Machine.{Attempt, State, sent_at}

pub event_there : (s : State) (attempt : ℕ) (bytes : List ℕ) → length bytes < 2 ^ 64 → (e : Event) × IsEventOf s attempt bytes e
event_there s attempt bytes short = by (sent_at s attempt) refl
  where
    n : ℕ
    n = s.run.search.polyhedron.n

    of_key : (t : Attempt) → sent_at s attempt ≡ Some t → (r : Reply) → IsWholeReply n r bytes → (e : Event) × IsEventOf s attempt bytes e
    of_key t there r whole = elim (one_key_or_not r.key t.key) [
      | inl same ↦ (Answer attempt r, (refl, record { which = t; is_sent = there; key = same; short = short; whole = whole }))
      | inr other ↦ (
        Lost attempt,
        (
          refl,
          λ x is.
              let one : x ≡ r = one_reply n x r bytes short is.whole whole in
              let q : Some is.which ≡ Some t = sym is.is_sent ∙ there in
              let it : is.which ≡ t = cc in
              other (ap (λ (z : Reply). z.key) (sym one) ∙ is.key ∙ ap (λ (z : Attempt). z.key) it),
        ),
      )
    ]

    by : (o : Option Attempt) → sent_at s attempt ≡ o → (e : Event) × IsEventOf s attempt bytes e
    by None there = (Lost attempt, (refl, λ x is. let q : Some is.which ≡ None = sym is.is_sent ∙ there in absurd (cc)))
    by (Some t) there = elim (reply_known n bytes short) [
      | inl whole ↦ of_key t there whole.0 whole.1
      | inr none ↦ (Lost attempt, (refl, λ x is. none (x, is.whole)))
    ]
