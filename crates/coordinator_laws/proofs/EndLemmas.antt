-- Each step lowers what is left to do, or adds bytes to the records; and where the machine finishes no key waits.
use Rattle.std.proofs.Common.{arith, ℕ, List, ◌≡◌, inl, inr, ◌+◌, ◌<◌, ◌≤◌, true, false, [], ◌∷◌, ◌++◌, refl, sym, ap, ◌∙◌, subst, length, nat_lt, Option, Some, None, Bool}
use Rattle.std.proofs.lemmas.List.Sums.{sum_by-append}
use Rattle.std.proofs.lemmas.Bool.{cases_Bool, ltb-false}
use Rattle.std.proofs.lemmas.List.{length-append}
use Rattle.work_core.specs.declared.budget.Budget.{Budget}
use Rattle.work_core.specs.ReplyLines.{lines_text}
use Rattle.job_text.specs.Replies.{IsWholeReply, reply_head, tail_text}
use Rattle.job_text.specs.declared.reply.Reply.{Reply}
use Rattle.job_text.proofs.ApartLemmas.{counts_within}
use Rattle.coordinator_core.specs.declared.action.Action.{Action}
use Rattle.coordinator_core.specs.declared.action.Action.TheVariants.{Hand, Collect, Finish, GiveUp}
use Rattle.coordinator_core.specs.declared.event.Event.TheVariants.{Answer, Lost}
use Rattle.coordinator_core.specs.declared.verdict.Verdict.{Verdict}
use Rattle.coordinator_core.specs.declared.verdict.Verdict.TheVariants.{Accepted, Stray, Loss, Ends}
use Rattle.coordinator_core.specs.Events.{IsReplyTo}
use Rattle.coordinator_core.specs.Machine.{AreOptions, Attempt, State, budget_of, by_verdict, hand_or_wait, handed, judged, keys_out, lost_at, next_action, sent_at, recorded_at, wait_or_finish}
use Rattle.coordinator_core.specs.Traces.{GoesOn, Step, hands, collects, stepped, Trace}
use Rattle.coordinator_core.proofs.KeyCounts.{times, times-here}
use Rattle.coordinator_core.proofs.SoundLemmas.{hand-means}
use Rattle.workers_io.specs.History.{Happening, started, refused, replied, broken}
use Rattle.coordinator_laws.specs.Courses.{AreToldAs, accepted_texts, kept_text, start_in, text_in}
use Rattle.coordinator_laws.specs.Ends.{CoursesEnd, NoneWaitsAtFinish, StepsLower, bytes_in, left_to_do}
use Rattle.coordinator_laws.proofs.CourseLaws.{sound_at_start}
use Rattle.coordinator_laws.proofs.FollowLemmas.{sounds-follow}

-- ---- where the machine goes on, not too many losses and strays came
goes-on : (s : State) (action : Action) → next_action s ≡ action → ((l t : ℕ) → action ≡ GiveUp l t → ⊥) → s.losses + s.strays ≤ s.options.lost
goes-on s action e other = elim (cases_Bool (nat_lt s.options.lost (s.losses + s.strays))) [
  | inl y ↦
      let up : next_action s ≡ GiveUp s.losses s.strays = rw y refl in
      absurd (other s.losses s.strays (sym e ∙ up))
  | inr n ↦ ltb-false s.options.lost (s.losses + s.strays) n
]

-- ---- a loss
lowered-loss : (s : State) (a : ℕ) (o : Option Attempt) → s.losses + s.strays ≤ s.options.lost → s.options.lost ≤ 1000000 →
    1 + left_to_do (lost_at s a o) ≤ left_to_do s
lowered-loss s a None few most = omega arith
lowered-loss s a (Some t) few most = elim (cases_Bool t.is_out) [
  | inl y ↦ rw y (omega (arith, few, most, length-append s.queue (t.key ∷ [])))
  | inr n ↦ rw n (omega (arith, few, most))
]

-- a hand, whether its start succeeds or not
lowered-hand : (s : State) (a : ℕ) (key : List ℕ) (budget : Budget) (began : Bool) (rest : List (List ℕ)) → s.queue ≡ key ∷ rest →
    s.losses + s.strays ≤ s.options.lost → s.options.lost ≤ 1000000 → 1 + left_to_do (stepped s (hands a key budget began)) ≤ left_to_do s
lowered-hand s a key budget true rest q few most = rw q (omega arith)
lowered-hand s a key budget false rest q few most =
    let u = handed s key budget in
    let lost = lowered-loss u a (sent_at u a) few most in
    let shorter : left_to_do u ≤ left_to_do s = rw q (omega arith) in
    omega (arith, lost, shorter)

-- ---- a reply has more bytes than keys
more-bytes : (n : ℕ) (r : Reply) (bytes : List ℕ) → IsWholeReply n r bytes → length r.keys < length bytes
more-bytes n r bytes w =
    omega (
      arith,
      counts_within w.lines,
      ap length w.keys,
      ap length w.is_text,
      length-append (reply_head r.key) (lines_text w.lines ++ tail_text r.tail),
      length-append (lines_text w.lines) (tail_text r.tail),
      some-head r.key,
    )
  where
    some-head : (key : List ℕ) → 0 < length (reply_head key)
    some-head key = omega arith

lowered-taken : (s : State) (a : ℕ) (r : Reply) (o : Option Attempt) (size : ℕ) → length r.keys < size → 1 + left_to_do (recorded_at s a r o) ≤ left_to_do s + size
lowered-taken s a r None size more = omega (arith, more)
lowered-taken s a r (Some t) size more = omega (arith, more, length-append s.queue r.keys)

lowered-verdict : (s : State) (a b : ℕ) (bytes : List ℕ) (r : Reply) (v : Verdict) → GoesOn v → IsReplyTo s a bytes r →
    s.losses + s.strays ≤ s.options.lost → s.options.lost ≤ 1000000 →
    1 + left_to_do (by_verdict s (Answer a r) v) ≤ left_to_do s + bytes_in (kept_text v (replied b bytes))
lowered-verdict s a b bytes r Accepted goes is few most =
    let more = more-bytes s.run.search.polyhedron.n r bytes is.whole in
    omega (arith, lowered-taken s a r (sent_at s a) (length bytes) more)
lowered-verdict s a b bytes r Stray goes is few most = omega (arith, few, most)
lowered-verdict s a b bytes r Loss goes is few most = omega (arith, lowered-loss s a (sent_at s a) few most)
lowered-verdict s a b bytes r (Ends o) goes is few most = absurd goes

no-hand-up : (s : State) (a : ℕ) (key : List ℕ) (budget : Budget) → next_action s ≡ Hand a key budget → s.losses + s.strays ≤ s.options.lost
no-hand-up s a key budget e = goes-on s (Hand a key budget) e (λ l t q. let never : Hand a key budget ≡ GiveUp l t = q in cc)

no-collect-up : (s : State) → next_action s ≡ Collect → s.losses + s.strays ≤ s.options.lost
no-collect-up s e = goes-on s Collect e (λ l t q. let never : Collect ≡ GiveUp l t = q in cc)

pub steps_lower : StepsLower
steps_lower s (hands a key budget began) h o m k =
    let p = hand-means s a key budget m in
    omega (arith, lowered-hand s a key budget began p.rest p.queue (no-hand-up s a key budget m) o.lost)
steps_lower s (collects (Answer a r)) (replied b bytes) o m k =
    lowered-verdict s a b bytes r (judged s a r) m.1 (subst (λ (n : ℕ). IsReplyTo s n bytes r) (sym k.0) k.1) (no-collect-up s m.0) o.lost
steps_lower s (collects (Answer a r)) (broken b) o m k = let never : Answer a r ≡ Lost b = k in absurd cc
steps_lower s (collects (Answer a r)) (started b text) o m k = absurd k
steps_lower s (collects (Answer a r)) (refused b text) o m k = absurd k
steps_lower s (collects (Lost a)) h o m k = omega (arith, lowered-loss s a (sent_at s a) (no-collect-up s m.0) o.lost)

-- ---- the steps of a call
same-options-lost : (s : State) (a : ℕ) (o : Option Attempt) → (lost_at s a o).options ≡ s.options
same-options-lost s a None = refl
same-options-lost s a (Some t) = elim (cases_Bool t.is_out) [ inl y ↦ rw y refl | inr n ↦ rw n refl ]

same-options-taken : (s : State) (a : ℕ) (r : Reply) (o : Option Attempt) → (recorded_at s a r o).options ≡ s.options
same-options-taken s a r None = refl
same-options-taken s a r (Some t) = refl

same-options-verdict : (s : State) (a : ℕ) (r : Reply) (v : Verdict) → (by_verdict s (Answer a r) v).options ≡ s.options
same-options-verdict s a r Accepted = same-options-taken s a r (sent_at s a)
same-options-verdict s a r Stray = refl
same-options-verdict s a r Loss = same-options-lost s a (sent_at s a)
same-options-verdict s a r (Ends o) = refl

same-options : (s : State) (step : Step) → (stepped s step).options ≡ s.options
same-options s (hands a key budget true) = refl
same-options s (hands a key budget false) = let u = handed s key budget in same-options-lost u a (sent_at u a)
same-options s (collects (Answer a r)) = same-options-verdict s a r (judged s a r)
same-options s (collects (Lost a)) = same-options-lost s a (sent_at s a)

steps-end : (s t : State) (steps : List Step) (hs : List Happening) → AreOptions s.options → Trace s steps t → AreToldAs s steps hs →
    length steps + left_to_do t ≤ left_to_do s + bytes_in (accepted_texts s steps hs)
steps-end s t [] hs o m k = subst (λ (z : State). 0 + left_to_do z ≤ left_to_do s + 0) (sym m) (omega arith)
steps-end s t (step ∷ steps) [] o m k = absurd k
steps-end s t (step ∷ steps) (h ∷ hs) o m k =
    let u = stepped s step in
    let rest = steps-end u t steps hs (subst AreOptions (sym (same-options s step)) o) m.1 k.1 in
    omega (arith, steps_lower s step h o m.0 k.0, rest, sum_by-append length (text_in s step h) (accepted_texts u steps hs))

pub courses_end : CoursesEnd
courses_end c o h = steps-end (start_in c) c.last c.steps c.happenings o h.trace h.told_as

-- ---- the end
record IsFinished (s : State) : Type 0 where
  queue : s.queue ≡ []
  none_out : length (keys_out s.sent) ≡ 0

finish-means : (s : State) → wait_or_finish s ≡ Finish → length (keys_out s.sent) ≡ 0
finish-means s e = elim (cases_Bool (nat_lt 0 (length (keys_out s.sent)))) [
  | inl y ↦ let never : Collect ≡ Finish = rw y at e in absurd cc
  | inr n ↦ omega (arith, ltb-false 0 (length (keys_out s.sent)) n)
]

finished-at : (s : State) (queue : List (List ℕ)) → AreOptions s.options → s.queue ≡ queue → hand_or_wait s queue ≡ Finish → IsFinished s
finished-at s [] o q e = record { queue = q; none_out = finish-means s e }
finished-at s (k ∷ ks) o q e = elim (cases_Bool (nat_lt (length (keys_out s.sent)) s.options.workers)) [
  | inl y ↦ let never : hand_or_wait s (k ∷ ks) ≡ Hand (length s.sent + 1) k (budget_of s) = rw y refl in absurd cc
  | inr n ↦
      let none = finish-means s (rw n at e) in
      absurd (omega (arith, none, ltb-false (length (keys_out s.sent)) s.options.workers n, o.workers.0))
]

finished : (s : State) → AreOptions s.options → next_action s ≡ Finish → IsFinished s
finished s o e = elim (cases_Bool (nat_lt s.options.lost (s.losses + s.strays))) [
  | inl y ↦ let never : GiveUp s.losses s.strays ≡ Finish = rw y at e in absurd cc
  | inr n ↦ finished-at s s.queue o refl (rw n at e)
]

no-keys : (keys : List (List ℕ)) → length keys ≡ 0 → keys ≡ []
no-keys [] e = refl
no-keys (k ∷ keys) e = absurd (omega (arith, e))

none-waits : (keys : List (List ℕ)) → ((k : List ℕ) → times k keys ≡ 0) → keys ≡ []
none-waits [] h = refl
none-waits (k ∷ keys) h = absurd (omega (arith, h k, times-here k k keys refl))

options-follow : (s t : State) (steps : List Step) → Trace s steps t → AreOptions s.options → AreOptions t.options
options-follow s t [] m o = subst (λ (z : State). AreOptions z.options) (sym m) o
options-follow s t (step ∷ steps) m o = options-follow (stepped s step) t steps m.1 (subst AreOptions (sym (same-options s step)) o)

pub none_waits_at_finish : NoneWaitsAtFinish
none_waits_at_finish c payloads o h t e =
    let last = c.last in
    let sound = sounds-follow (start_in c) last c.steps (sound_at_start c payloads t) h.trace in
    let f = finished last (options-follow (start_in c) last c.steps h.trace o) e in
    let out = no-keys (keys_out last.sent) f.none_out in
    none-waits last.run.keys.waiting (λ k.
    let queued : times k last.queue ≡ 0 = ap (times k) f.queue in
    let handed : times k (keys_out last.sent) ≡ 0 = ap (times k) out in
    omega (arith, sound.placed k, queued, handed))
