-- Where a machine is sound: the waiting keys are those of the queue and those that are out, each once, and none is done. It
-- is said by counts here, and each step keeps it.
use Rattle.std.proofs.Common.{arith, ℕ, List, ◌≡◌, inl, inr, ◌+◌, ◌-◌, ◌<◌, true, false, not, ◌&&◌, [], ◌∷◌, ◌++◌, refl, sym, ap, ◌∙◌, subst, length, Option, Some, None, nat_lt, if◌then◌else◌}
use Rattle.std.proofs.lemmas.Bool.{cases_Bool, cases_lt, and_parts, not-true, ltb-true}
use Rattle.std.specs.List.{Contains, slice_get}
use Rattle.search_laws.proofs.OnceLists.{one_key_or_not}
use Rattle.work_core.specs.declared.budget.Budget.{Budget}
use Rattle.run_state.specs.KeyLists.{IsFirstClash, KnownKeys, is_same_key, holds, without_key, are_new}
use Rattle.job_text.specs.declared.reply.Reply.{Reply}
use Rattle.job_text.specs.declared.reply.Tail.{Tail}
use Rattle.job_text.specs.declared.reply.Tail.TheVariants.{End, Overflow, Memory}
use Rattle.run_state.specs.Payloads.{SaysEnd}
use Rattle.run_state.specs.Runs.{Run}
use Rattle.run_state.proofs.KeyListLemmas.{clash_not_new, same_keys, same_means}
use Rattle.coordinator_core.proofs.KeyCounts.{WaitsOnce, times, times-append, times-here, times-there, times_of, member_of, once_counts, counts_once, without-same, without-other, holds-false, once-next}
use Rattle.coordinator_core.specs.declared.action.Action.TheVariants.{Hand, Collect, Finish, GiveUp}
use Rattle.coordinator_core.specs.declared.event.Event.{Event}
use Rattle.coordinator_core.specs.declared.event.Event.TheVariants.{Answer, Lost}
use Rattle.coordinator_core.specs.declared.options.Options.{Options}
use Rattle.coordinator_core.specs.declared.verdict.Verdict.{Verdict}
use Rattle.coordinator_core.specs.declared.verdict.Verdict.TheVariants.{Accepted, Stray, Loss, Ends}
use Rattle.coordinator_core.specs.Machine.{Attempt, State, after, budget_of, by_tail, by_verdict, hand_or_wait, handed, judged, keys_out, after_loss, lost_at, next_action, sent_at, start_of, recorded_at, verdict_at, verdict_for, wait_or_finish}
use Rattle.coordinator_core.specs.Places.{IsDueReply, IsDueAt, IsSound}
use Rattle.coordinator_core.proofs.AttemptLemmas.{keys_out-ended, keys_out-has, keys_out-push, sent_at_place}

-- the keys of the queue and those that are out are those that wait; each waits once at most, and none that waits is done
pub record Sound (s : State) : Type 0 where
  pub placed : (k : List ℕ) → times k s.queue + times k (keys_out s.sent) ≡ times k s.run.keys.waiting
  pub once : (k : List ℕ) → WaitsOnce s.run.keys.waiting s.run.keys.done k

-- ---- the same by members
pub sound_by_counts : (s : State) → IsSound s.run s.queue s.sent → Sound s
sound_by_counts s h =
    let waiting = s.run.keys.waiting in
    let all = s.queue ++ keys_out s.sent in
    record {
      once = λ k. (
        once_counts waiting h.known.once k,
        λ w. elim (cases_lt 0 (times k s.run.keys.done)) [
          | inl d ↦ absurd (h.known.not_done k (member_of waiting k w) (member_of s.run.keys.done k d))
          | inr e ↦ omega (arith, e)
        ],
      );
      placed = λ k.
          let sum = times-append k s.queue (keys_out s.sent) in
          let most = once_counts all h.placed.once k in
          elim (cases_lt 0 (times k waiting)) [
            | inl b ↦ omega (arith, sum, most, once_counts waiting h.known.once k, b, times_of all k (h.placed.each k (member_of waiting k b)))
            | inr c ↦ elim (cases_lt 0 (times k all)) [
              | inl d ↦ absurd (omega (arith, c, times_of waiting k (h.placed.only k (member_of all k d))))
              | inr e ↦ omega (arith, sum, c, e)
            ]
          ];
    }

pub sound_by_members : (s : State) → Sound s → IsSound s.run s.queue s.sent
sound_by_members s h =
    let waiting = s.run.keys.waiting in
    let all = s.queue ++ keys_out s.sent in
    record {
      known = record {
        once = counts_once waiting (λ k. (h.once k).0);
        not_done = λ k w d. omega (arith, (h.once k).1 (times_of waiting k w), times_of s.run.keys.done k d);
      };
      placed = record {
        once = counts_once all (λ k. omega (arith, h.placed k, (h.once k).0, times-append k s.queue (keys_out s.sent)));
        only = λ k c. member_of waiting k (omega (arith, h.placed k, times_of all k c, times-append k s.queue (keys_out s.sent)));
        each = λ k c. member_of all k (omega (arith, h.placed k, times_of waiting k c, times-append k s.queue (keys_out s.sent)));
      };
    }

-- ---- what an accepted reply is
pub record IsAccepted (s : State) (r : Reply) (o : Option Attempt) : Type 0 where
  pub attempt : Attempt
  pub there : o ≡ Some attempt
  pub out : attempt.is_out ≡ true
  pub key : r.key ≡ attempt.key
  pub not_done : times r.key s.run.keys.done ≡ 0
  pub ends : SaysEnd r.tail
  pub new_keys : are_new (s.run.keys.waiting ++ s.run.keys.done) r.keys ≡ true

tail-accepted : (keys : KnownKeys) (r : Reply) (t : Tail) → by_tail keys r t ≡ Accepted → SaysEnd t × (are_new (keys.waiting ++ keys.done) r.keys ≡ true)
tail-accepted keys r (End count) e = elim (cases_Bool (are_new (keys.waiting ++ keys.done) r.keys)) [
  | inl y ↦ (tt, y)
  | inr n ↦ let q : Loss ≡ Accepted = rw n at e in absurd (cc)
]
tail-accepted keys r (Overflow o) e = absurd (cc)
tail-accepted keys r Memory e = absurd (cc)

pub accepted-means : (s : State) (r : Reply) (o : Option Attempt) → verdict_at s.run r o ≡ Accepted → IsAccepted s r o
accepted-means s r None e = absurd (cc)
accepted-means s r (Some t) e = elim (cases_Bool (is_same_key r.key t.key)) [
  | inl w ↦
      let e1 = rw w at e in
      elim (cases_Bool (t.is_out && not (holds s.run.keys.done r.key))) [
        | inl b ↦
            let e2 = rw b at e1 in
            let p = and_parts t.is_out (not (holds s.run.keys.done r.key)) b in
            let q = tail-accepted s.run.keys r r.tail e2 in
            record { attempt = t; there = refl; out = p.0; key = same_means r.key t.key w; not_done = holds-false s.run.keys.done r.key (not-true (holds s.run.keys.done r.key) p.1); ends = q.0; new_keys = q.1 }
        | inr b ↦ let e2 : Stray ≡ Accepted = rw b at e1 in absurd (cc)
      ]
  | inr w ↦ let e1 : Loss ≡ Accepted = rw w at e in absurd (cc)
]

-- ---- what a hand is
pub record IsHand (s : State) (a : ℕ) (key : List ℕ) (budget : Budget) : Type 0 where
  pub rest : List (List ℕ)
  pub queue : s.queue ≡ key ∷ rest
  pub number : a ≡ length s.sent + 1
  pub budgeted : budget ≡ budget_of s
  pub room : length (keys_out s.sent) < s.options.workers

no-hand : (s : State) (a : ℕ) (key : List ℕ) (budget : Budget) → wait_or_finish s ≡ Hand a key budget → ⊥
no-hand s a key budget e = elim (cases_Bool (nat_lt 0 (length (keys_out s.sent)))) [
  | inl y ↦ let q : Collect ≡ Hand a key budget = rw y at e in cc
  | inr n ↦ let q : Finish ≡ Hand a key budget = rw n at e in cc
]

parts-of-hand : (a b : ℕ) (k key : List ℕ) (d budget : Budget) → Hand a k d ≡ Hand b key budget → (a ≡ b) × (k ≡ key) × (d ≡ budget)
parts-of-hand a b k key d budget e = (cc, cc, cc)

hand-means-at : (s : State) (queue : List (List ℕ)) (a : ℕ) (key : List ℕ) (budget : Budget) → s.queue ≡ queue → hand_or_wait s queue ≡ Hand a key budget → IsHand s a key budget
hand-means-at s [] a key budget q e = absurd (no-hand s a key budget e)
hand-means-at s (k ∷ ks) a key budget q e = elim (cases_Bool (nat_lt (length (keys_out s.sent)) s.options.workers)) [
  | inl y ↦
      let p = parts-of-hand (length s.sent + 1) a k key (budget_of s) budget (rw y at e) in
      record { rest = ks; queue = q ∙ ap (λ (v : List ℕ). v ∷ ks) p.1; number = sym p.0; budgeted = sym p.2; room = ltb-true (length (keys_out s.sent)) s.options.workers y }
  | inr n ↦ absurd (no-hand s a key budget (rw n at e))
]

pub hand-means : (s : State) (a : ℕ) (key : List ℕ) (budget : Budget) → next_action s ≡ Hand a key budget → IsHand s a key budget
hand-means s a key budget e = elim (cases_Bool (nat_lt s.options.lost (s.losses + s.strays))) [
  | inl y ↦ let q : GiveUp s.losses s.strays ≡ Hand a key budget = rw y at e in absurd (cc)
  | inr n ↦ hand-means-at s s.queue a key budget refl (rw n at e)
]

-- ---- each step keeps it
pub sound-start : (options : Options) (run : Run) → ((k : List ℕ) → WaitsOnce run.keys.waiting run.keys.done k) → Sound (start_of options run)
sound-start options run once = record { placed = λ k. omega arith; once = once }

pub sound-handed : (s : State) (key : List ℕ) (budget : Budget) (rest : List (List ℕ)) → s.queue ≡ key ∷ rest → Sound s → Sound (handed s key budget)
sound-handed s key budget rest q h = record {
  placed = λ k. rw q (omega (arith, keys_out-push k s.sent key budget, h.placed k, ap (times k) q));
  once = h.once;
}

pub sound-lost-at : (s : State) (a : ℕ) (o : Option Attempt) → sent_at s a ≡ o → Sound s → Sound (lost_at s a o)
sound-lost-at s a None e h = record { placed = h.placed; once = h.once }
sound-lost-at s a (Some t) e h = elim (cases_Bool t.is_out) [
  | inl y ↦
      let there = (sent_at_place s a t e).1 in
      rw y (record { placed = λ k. omega (arith, keys_out-ended k s.sent (a - 1) t there y, h.placed k, times-append k s.queue (t.key ∷ [])); once = h.once })
  | inr n ↦ rw n (record { placed = h.placed; once = h.once })
]

pub sound-lost : (s : State) (a : ℕ) → Sound s → Sound (after_loss s a)
sound-lost s a h = sound-lost-at s a (sent_at s a) refl h

-- the job of an accepted reply waits
pub waits-accepted : (s : State) (a : ℕ) (r : Reply) → IsAccepted s r (sent_at s a) → Sound s → 0 < times r.key s.run.keys.waiting
waits-accepted s a r p h =
    let t = p.attempt in
    let here = keys_out-has s.sent (a - 1) t (sent_at_place s a t p.there).1 p.out in
    subst (λ (k : List ℕ). 0 < times k s.run.keys.waiting) (sym p.key) (omega (arith, here, h.placed t.key))

sound-taken-at : (s : State) (a : ℕ) (r : Reply) (t : Attempt) → slice_get s.sent (a - 1) ≡ Some t → IsAccepted s r (Some t) → 0 < times r.key s.run.keys.waiting → Sound s → Sound (recorded_at s a r (Some t))
sound-taken-at s a r t e p w h =
    let same : p.attempt ≡ t = let q : Some p.attempt ≡ Some t = sym p.there in cc in
    let key : r.key ≡ t.key = p.key ∙ ap (λ (u : Attempt). u.key) same in
    let out : t.is_out ≡ true = subst (λ (u : Attempt). u.is_out ≡ true) same p.out in
    let waiting = s.run.keys.waiting in
    record {
      placed = λ k.
          let a1 = times-append k s.queue r.keys in
          let a2 = times-append k (without_key r.key waiting) r.keys in
          let a3 = keys_out-ended k s.sent (a - 1) t e out in
          elim (one_key_or_not k r.key) [
            | inl q ↦
                let z : times k (without_key r.key waiting) ≡ 0 = subst (λ (v : List ℕ). times k (without_key v waiting) ≡ 0) q (without-same k waiting) in
                omega (arith, a1, a2, a3, z, h.placed k, (h.once k).0, times-here k t.key [] (q ∙ key))
            | inr n ↦ omega (arith, a1, a2, a3, without-other k r.key waiting n, h.placed k, times-there k t.key [] (λ q. n (q ∙ sym key)))
          ];
      once = once-next waiting s.run.keys.done r.key r.keys h.once w p.new_keys;
    }

pub sound-taken : (s : State) (a : ℕ) (r : Reply) → IsAccepted s r (sent_at s a) → Sound s → Sound (recorded_at s a r (sent_at s a))
sound-taken s a r p h =
    let t = p.attempt in
    let w = waits-accepted s a r p h in
    rw p.there (sound-taken-at s a r t (sent_at_place s a t p.there).1 (subst (IsAccepted s r) p.there p) w h)

pub sound-verdict : (s : State) (a : ℕ) (r : Reply) (v : Verdict) → judged s a r ≡ v → Sound s → Sound (by_verdict s (Answer a r) v)
sound-verdict s a r Accepted e h = sound-taken s a r (accepted-means s r (sent_at s a) e) h
sound-verdict s a r Stray e h = record { placed = h.placed; once = h.once }
sound-verdict s a r Loss e h = sound-lost s a h
sound-verdict s a r (Ends o) e h = h

pub sound-after : (s : State) (e : Event) → Sound s → Sound (after s e)
sound-after s (Answer a r) h = sound-verdict s a r (judged s a r) refl h
sound-after s (Lost a) h = sound-lost s a h

-- ---- a reply that is due
pub due_accepted : (s : State) (attempt : ℕ) (r : Reply) → IsDueAt s attempt r → are_new (s.run.keys.waiting ++ s.run.keys.done) r.keys ≡ true →
    IsAccepted s r (sent_at s attempt)
due_accepted s attempt r d new = record {
  attempt = d.which;
  there = d.is_sent;
  out = d.due.is_out;
  key = d.due.key;
  not_done = holds-false s.run.keys.done r.key d.due.not_done;
  ends = d.due.ends;
  new_keys = new;
}

by_tail-end : (keys : KnownKeys) (r : Reply) (t : Tail) → SaysEnd t →
    by_tail keys r t ≡ (if are_new (keys.waiting ++ keys.done) r.keys then Accepted else Loss)
by_tail-end keys r (End count) h = refl
by_tail-end keys r (Overflow o) h = absurd h
by_tail-end keys r Memory h = absurd h

pub due_verdict : (run : Run) (r : Reply) (a : Attempt) → IsDueReply run r a →
    verdict_for run r a ≡ (if are_new (run.keys.waiting ++ run.keys.done) r.keys then Accepted else Loss)
due_verdict run r a d = rw (same_keys r.key a.key d.key) (rw d.is_out (rw d.not_done (by_tail-end run.keys r r.tail d.ends)))

pub due_waits : (s : State) (attempt : ℕ) (r : Reply) → Sound s → IsDueAt s attempt r → Contains s.run.keys.waiting r.key
due_waits s attempt r h d =
    let here = keys_out-has s.sent (attempt - 1) d.which (sent_at_place s attempt d.which d.is_sent).1 d.due.is_out in
    member_of s.run.keys.waiting r.key
    (subst (λ (k : List ℕ). 0 < times k s.run.keys.waiting) (sym d.due.key) (omega (arith, here, h.placed d.which.key)))

due_judged : (s : State) (attempt : ℕ) (r : Reply) → IsDueAt s attempt r →
    judged s attempt r ≡ (if are_new (s.run.keys.waiting ++ s.run.keys.done) r.keys then Accepted else Loss)
due_judged s attempt r d = ap (verdict_at s.run r) d.is_sent ∙ due_verdict s.run r d.which d.due

pub accepted_due : (s : State) (attempt : ℕ) (r : Reply) → IsDueAt s attempt r → are_new (s.run.keys.waiting ++ s.run.keys.done) r.keys ≡ true →
    Accepted ≡ judged s attempt r
accepted_due s attempt r d new =
    let same : judged s attempt r ≡ Accepted = rw new at (due_judged s attempt r d) in sym same

pub clash_due : (s : State) (attempt : ℕ) (r : Reply) → IsDueAt s attempt r → are_new (s.run.keys.waiting ++ s.run.keys.done) r.keys ≡ false →
    Loss ≡ judged s attempt r
clash_due s attempt r d old =
    let same : judged s attempt r ≡ Loss = rw old at (due_judged s attempt r d) in sym same

pub clash_is_old : (known keys : List (List ℕ)) (k : List ℕ) → IsFirstClash known keys k → are_new known keys ≡ false
clash_is_old known keys k clash = elim (cases_Bool (are_new known keys)) [
  | inl y ↦ absurd (clash_not_new known keys k clash y)
  | inr n ↦ n
]
