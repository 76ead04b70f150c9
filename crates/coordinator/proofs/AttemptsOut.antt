-- The attempts that are out in the machine are out at the workers.
use Rattle.std.proofs.Common.{arith, ℕ, zero, suc, List, ◌≡◌, ◌≢◌, inl, inr, ◌+◌, ◌-◌, ◌<◌, ◌==◌, Bool, true, false, not, ◌&&◌, nat_lt, [], ◌∷◌, ◌++◌, refl, sym, ap, ◌∙◌, subst, length, Option, Some, None, slice_set}
use Rattle.std.specs.List.{Contains, slice_get}
use Rattle.std.proofs.lemmas.Bool.{and_cases, cases_Bool, lt-ltb, ltb-true, not-false}
use Rattle.std.proofs.lemmas.List.Elements.{Contains-append_left, Contains-append_right}
use Rattle.linear_laws.proofs.Members.{Contains-first, Contains-nil}
use Rattle.dictionary_laws.proofs.Filters.{filter_kept}
use Rattle.work_core.specs.declared.budget.Budget.{Budget}
use Rattle.job_text.specs.declared.reply.Reply.{Reply}
use Rattle.job_text.specs.declared.reply.Tail.{Tail}
use Rattle.job_text.specs.declared.reply.Tail.TheVariants.{End, Overflow, Memory}
use Rattle.run_state.specs.KeyLists.{KnownKeys, are_new, holds, is_same_key}
use Rattle.run_state.proofs.KeyListLemmas.{held, same_means}
use Rattle.workers_io.specs.Collects.{out_after}
use Rattle.coordinator_core.specs.declared.action.Action.TheVariants.{Hand, Collect, Finish, GiveUp}
use Rattle.coordinator_core.specs.declared.event.Event.{Event}
use Rattle.coordinator_core.specs.declared.event.Event.TheVariants.{Answer, Lost}
use Rattle.coordinator_core.specs.declared.verdict.Verdict.{Verdict}
use Rattle.coordinator_core.specs.declared.verdict.Verdict.TheVariants.{Accepted, Stray, Loss, Ends}
use Rattle.coordinator_core.specs.Machine.{Attempt, State, after, after_loss, attempt_of, by_tail, by_verdict, hand_or_wait, handed, judged, keys_out, lost_at, next_action, recorded_at, sent_at, verdict_at, verdict_for, verdict_of, wait_or_finish}
use Rattle.coordinator_core.specs.Traces.{GoesOn, started_or_lost}
use Rattle.coordinator_core.proofs.AttemptLemmas.{back, get-push, keys_out-has, sent_at_place}
use Rattle.coordinator_core.proofs.KeyCounts.{times, times_of}
use Rattle.coordinator_core.proofs.SoundLemmas.{Sound, hand-means}
use Rattle.coordinator.specs.Following.{AreOut}
use Rattle.coordinator.specs.Starting.{IsStarted, out_with}

-- ---- places and numbers
sent-at : (s : State) (b : ℕ) (u : Attempt) → 0 < b → slice_get s.sent (b - 1) ≡ Some u → sent_at s b ≡ Some u
sent-at s b u h e = rw (lt-ltb 0 b h) e

same-place : (a b : ℕ) → 0 < a → 0 < b → a - 1 ≡ b - 1 → a ≡ b
same-place a b h k e = omega (arith, h, k, e)

-- ---- an attempt that has ended is out no more
still-out : (sent : List Attempt) (a b : ℕ) (u t : Attempt) → slice_get (slice_set sent a (back u)) b ≡ Some t → t.is_out ≡ true →
    (slice_get sent b ≡ Some t) × (b ≢ a)
still-out [] a b u t e y = absurd (cc)
still-out (x ∷ xs) zero zero u t e y =
    let q : back u ≡ t = cc in
    let f : false ≡ t.is_out = ap (λ (w : Attempt). w.is_out) q in absurd (cc)
still-out (x ∷ xs) zero (suc b) u t e y = (e, λ q. omega (arith, q))
still-out (x ∷ xs) (suc a) zero u t e y = (e, λ q. omega (arith, q))
still-out (x ∷ xs) (suc a) (suc b) u t e y = let p = still-out xs a b u t e y in (p.0, λ q. p.1 (omega (arith, q)))

-- what is out in t was out in s, and is not the attempt a
Frees : State → State → ℕ → Type 0
Frees s t a = (b : ℕ) (u : Attempt) → sent_at t b ≡ Some u → u.is_out ≡ true → (sent_at s b ≡ Some u) × (b ≢ a)

module _ (s : State) (a : ℕ) where
  frees-ended : (t : Attempt) (v : State) → 0 < a → v.sent ≡ slice_set s.sent (a - 1) (back t) → Frees s v a
  unfolding Frees
  frees-ended t v some q b u e y =
      let here = sent_at_place v b u e in
      let p = still-out s.sent (a - 1) (b - 1) t u (subst (λ (l : List Attempt). slice_get l (b - 1) ≡ Some u) q here.1) y in
      (sent-at s b u here.0 p.0, λ (same : b ≡ a). p.1 (ap (λ (n : ℕ). n - 1) same))

  frees-idle : (v : State) (o : Option Attempt) → v.sent ≡ s.sent → sent_at s a ≡ o → ((t : Attempt) → o ≡ Some t → t.is_out ≡ true → ⊥) → Frees s v a
  unfolding Frees
  frees-idle v o q there idle b u e y =
      let here = sent_at_place v b u e in
      let was = sent-at s b u here.0 (subst (λ (l : List Attempt). slice_get l (b - 1) ≡ Some u) q here.1) in
      (was, λ (same : b ≡ a). idle u (sym there ∙ subst (λ (n : ℕ). sent_at s n ≡ Some u) same was) y)

  frees-lost : (o : Option Attempt) → sent_at s a ≡ o → Frees s (lost_at s a o) a
  frees-lost None there = frees-idle (lost_at s a None) None refl there (λ t q. absurd (cc))
  frees-lost (Some t) there = elim (cases_Bool t.is_out) [
    | inl o ↦ frees-ended t (lost_at s a (Some t)) (sent_at_place s a t there).0 (rw o refl)
    | inr n ↦ frees-idle (lost_at s a (Some t)) (Some t) (rw n refl) there (λ w q o.
        let p : t ≡ w = cc in
        let f : t.is_out ≡ true = subst (λ (v : Attempt). v.is_out ≡ true) (sym p) o in absurd (cc))
  ]

  frees-recorded : (r : Reply) (o : Option Attempt) → sent_at s a ≡ o → verdict_at s.run r o ≡ Accepted → Frees s (recorded_at s a r o) a
  frees-recorded r None there j = absurd (cc)
  frees-recorded r (Some t) there j = frees-ended t (recorded_at s a r (Some t)) (sent_at_place s a t there).0 refl

  stray-tail : (keys : KnownKeys) (r : Reply) (t : Tail) → by_tail keys r t ≡ Stray → ⊥
  stray-tail keys r (Overflow o) j = cc
  stray-tail keys r Memory j = cc
  stray-tail keys r (End count) j = elim (cases_Bool (are_new (keys.waiting ++ keys.done) r.keys)) [
    | inl y ↦ let q : Accepted ≡ Stray = rw y at j in cc
    | inr n ↦ let q : Loss ≡ Stray = rw n at j in cc
  ]

  -- a stray names no attempt that is out: the jobs of those wait
  stray-idle : (r : Reply) (t : Attempt) → Sound s → sent_at s a ≡ Some t → verdict_for s.run r t ≡ Stray → t.is_out ≡ true → ⊥
  stray-idle r t h there j out = elim (cases_Bool (is_same_key r.key t.key)) [
    | inl w ↦ elim (cases_Bool (t.is_out && not (holds s.run.keys.done r.key))) [
      | inl b ↦ stray-tail s.run.keys r r.tail (rw (w, b) at j)
      | inr b ↦ elim (and_cases t.is_out (not (holds s.run.keys.done r.key)) b) [
        | inl n ↦ absurd (cc)
        | inr n ↦
            let done : Contains s.run.keys.done r.key = held s.run.keys.done r.key (not-false (holds s.run.keys.done r.key) n) in
            let there1 : Contains s.run.keys.done t.key = subst (λ (k : List ℕ). Contains s.run.keys.done k) (same_means r.key t.key w) done in
            let here = keys_out-has s.sent (a - 1) t (sent_at_place s a t there).1 out in
            let waits : 0 < times t.key s.run.keys.waiting = omega (arith, here, h.placed t.key) in
            omega (arith, times_of s.run.keys.done t.key there1, (h.once t.key).1 waits)
      ]
    ]
    | inr w ↦ let q : Loss ≡ Stray = rw w at j in absurd (cc)
  ]

  frees-stray : (v : State) (r : Reply) (o : Option Attempt) → v.sent ≡ s.sent → Sound s → sent_at s a ≡ o → verdict_at s.run r o ≡ Stray → Frees s v a
  frees-stray v r None same h there j = absurd (cc)
  frees-stray v r (Some t) same h there j = frees-idle v (Some t) same there (λ w q o.
      let p : t ≡ w = cc in stray-idle r t h there j (subst (λ (v : Attempt). v.is_out ≡ true) (sym p) o))

  frees-verdict : (r : Reply) (v : Verdict) → Sound s → judged s a r ≡ v → GoesOn v → Frees s (by_verdict s (Answer a r) v) a
  frees-verdict r Accepted h j g = frees-recorded r (sent_at s a) refl j
  frees-verdict r Stray h j g = frees-stray (by_verdict s (Answer a r) Stray) r (sent_at s a) refl h refl j
  frees-verdict r Loss h j g = frees-lost (sent_at s a) refl
  frees-verdict r (Ends o) h j g = absurd g

other-test : (a b : ℕ) → b ≢ a → not (b == a) ≡ true
other-test a b n = elim (cases_Bool (b == a)) [ inl y ↦ absurd (n (grind (arith, y))) | inr k ↦ rw k refl ]

out-freed : (s t : State) (a : ℕ) (out : List ℕ) → Frees s t a → AreOut s out → AreOut t (out_after out a)
unfolding Frees
out-freed s t a out f h b u e y = let p = f b u e y in filter_kept (λ c. not (c == a)) out b (h b u p.0 y) (other-test a b p.1)

-- ---- a collect
pub out-collected : (s : State) (e : Event) (out : List ℕ) → Sound s → GoesOn (verdict_of s e) → AreOut s out → AreOut (after s e) (out_after out (attempt_of e))
out-collected s (Answer a r) out h g w = out-freed s (after s (Answer a r)) a out (frees-verdict s a r (judged s a r) h refl g) w
out-collected s (Lost a) out h g w = out-freed s (after_loss s a) a out (frees-lost s a (sent_at s a) refl) w

-- ---- a start
out-handed : (s : State) (a : ℕ) (key : List ℕ) (budget : Budget) (out : List ℕ) → a ≡ length s.sent + 1 → AreOut s out → AreOut (handed s key budget) (out ++ a ∷ [])
out-handed s a key budget out n h b t e y =
    let here = sent_at_place (handed s key budget) b t e in
    elim (get-push s.sent (record { key = key; budget = budget; is_out = true }) (b - 1) t here.1) [
      | inl p ↦ Contains-append_left out (a ∷ []) b (h b t (sent-at s b t here.0 p) y)
      | inr q ↦
          let same : a ≡ b = omega (arith, n, q.0, here.0) in
          Contains-append_right out (a ∷ []) b (subst (λ (z : ℕ). Contains (a ∷ []) z) same (Contains-first a []))
    ]

out-refused : (s : State) (a : ℕ) (key : List ℕ) (budget : Budget) (out : List ℕ) → a ≡ length s.sent + 1 → AreOut s out → AreOut (after_loss (handed s key budget) a) out
unfolding Frees
out-refused s a key budget out n h b t e y =
    let u = handed s key budget in
    let p = frees-lost u a (sent_at u a) refl b t e y in
    let here = sent_at_place u b t p.0 in
    elim (get-push s.sent (record { key = key; budget = budget; is_out = true }) (b - 1) t here.1) [
      | inl q ↦ h b t (sent-at s b t here.0 q) y
      | inr q ↦ absurd (p.1 (omega (arith, n, q.0, here.0)))
    ]

out-began : (s : State) (a : ℕ) (key : List ℕ) (budget : Budget) (began : Bool) (out : List ℕ) → a ≡ length s.sent + 1 → AreOut s out →
    AreOut (started_or_lost (handed s key budget) a began) (out_with began out a)
out-began s a key budget true out n h = out-handed s a key budget out n h
out-began s a key budget false out n h = out-refused s a key budget out n h

pub out-started : (s mid t : State) (a : ℕ) (key : List ℕ) (budget : Budget) (text out out' : List ℕ) {old new : _} → next_action s ≡ Hand a key budget →
    mid ≡ handed s key budget → IsStarted mid t a text out out' old new → AreOut s out → AreOut t out'
out-started s mid t a key budget text out out' act is p h =
    let all = out-began s a key budget p.began out (hand-means s a key budget act).number h in
    let state : t ≡ started_or_lost (handed s key budget) a p.began = p.state ∙ ap (λ (z : State). started_or_lost z a p.began) is in
    subst (λ (z : State). AreOut z out') (sym state) (subst (AreOut (started_or_lost (handed s key budget) a p.began)) (sym p.are_out) all)

-- ---- there is something to collect
collects-rest : (s : State) → wait_or_finish s ≡ Collect → 0 < length (keys_out s.sent)
collects-rest s e = elim (cases_Bool (nat_lt 0 (length (keys_out s.sent)))) [
  | inl y ↦ ltb-true 0 (length (keys_out s.sent)) y
  | inr n ↦ let q : Finish ≡ Collect = rw n at e in absurd (cc)
]

collects-at : (s : State) (queue : List (List ℕ)) → hand_or_wait s queue ≡ Collect → 0 < length (keys_out s.sent)
collects-at s [] e = collects-rest s e
collects-at s (k ∷ ks) e = elim (cases_Bool (nat_lt (length (keys_out s.sent)) s.options.workers)) [
  | inl y ↦ let q = rw y at e in absurd (cc)
  | inr n ↦ collects-rest s (rw n at e)
]

collects : (s : State) → next_action s ≡ Collect → 0 < length (keys_out s.sent)
collects s e = elim (cases_Bool (nat_lt s.options.lost (s.losses + s.strays))) [
  | inl y ↦ let q : GiveUp s.losses s.strays ≡ Collect = rw y at e in absurd (cc)
  | inr n ↦ collects-at s s.queue (rw n at e)
]

some-is-out : (sent : List Attempt) → 0 < length (keys_out sent) → (i : ℕ) × (t : Attempt) × (slice_get sent i ≡ Some t) × (t.is_out ≡ true)
some-is-out [] e = absurd (omega (arith, e))
some-is-out (t ∷ ts) e = elim (cases_Bool t.is_out) [
  | inl y ↦ (0, t, refl, y)
  | inr n ↦ let p = some-is-out ts (rw n at e) in (suc p.0, p.1, p.2, p.3)
]

not-empty : (b : ℕ) (out : List ℕ) → Contains out b → 0 < length out
not-empty b [] c = absurd (Contains-nil b c)
not-empty b (x ∷ out) c = omega arith

pub some-out : (s : State) (out : List ℕ) → AreOut s out → next_action s ≡ Collect → 0 < length out
some-out s out h e =
    let p = some-is-out s.sent (collects s e) in
    not-empty (p.0 + 1) out (h (p.0 + 1) p.1 (sent-at s (p.0 + 1) p.1 (omega arith) (subst (λ (n : ℕ). slice_get s.sent n ≡ Some p.1) (omega arith) p.2)) p.3)
