-- What becomes of a reply to an attempt that is out, where the records are legal.
use Rattle.std.proofs.Common.{arith, ℕ, List, ◌≡◌, inl, inr, ◌-◌, ◌<◌, true, false, ◌++◌, sym, ap, ◌∙◌, subst, Option, Some, None, refl, ◌&&◌, not}
use Rattle.std.specs.List.{Contains}
use Rattle.std.proofs.lemmas.Bool.{cases_Bool}
use Rattle.poly_model.specs.declared.overflow.Overflow.{Overflow as Passed}
use Rattle.work_core.specs.Searches.{Search}
use Rattle.job_text.specs.declared.reply.Reply.{Reply}
use Rattle.job_text.specs.declared.reply.Tail.{Tail}
use Rattle.job_text.specs.declared.reply.Tail.TheVariants.{End, Overflow, Memory}
use Rattle.run_state.specs.KeyLists.{KnownKeys, are_new, holds, is_same_key}
use Rattle.run_state.specs.Payloads.{FitsIn, SaysEnd, first_keys, keys_of}
use Rattle.run_state.specs.Runs.{Run, first_run, run_of}
use Rattle.run_state.specs.Legal.{AreLegal, IsLegalReply}
use Rattle.run_state.proofs.FollowLemmas.{run-keys}
use Rattle.run_state.proofs.KeyListLemmas.{holds_not, same_keys, same_means}
use Rattle.run_state.proofs.LegalLaws.{honest_keys_are_new}
use Rattle.coordinator_core.specs.declared.verdict.Verdict.TheVariants.{Accepted, Stray, Loss, Ends}
use Rattle.coordinator_core.specs.Machine.{Attempt, State, by_tail, judged, sent_at, verdict_at}
use Rattle.coordinator_core.proofs.AttemptLemmas.{keys_out-has, sent_at_place}
use Rattle.coordinator_core.proofs.KeyCounts.{times, times_of, member_of}
use Rattle.coordinator_core.proofs.SoundLemmas.{Sound}

-- a state whose records are legal
pub record IsLegalState (search : Search) (s : State) : Type 0 where
  pub sound : Sound s
  pub replies : List Reply
  pub payloads : List (List ℕ)
  pub legal : AreLegal search replies payloads
  pub run : s.run ≡ run_of (first_run search) replies

pub keys_in_state : (search : Search) (s : State) (h : IsLegalState search s) → s.run.keys ≡ keys_of (first_keys search) h.replies
keys_in_state search s h = ap (λ (z : Run). z.keys) h.run ∙ run-keys (first_run search) h.replies

-- the job of an attempt that is out waits, and is not done
pub waits_out : (s : State) (attempt : ℕ) (a : Attempt) → Sound s → sent_at s attempt ≡ Some a → a.is_out ≡ true →
    (0 < times a.key s.run.keys.waiting) × (times a.key s.run.keys.done ≡ 0)
waits_out s attempt a h there out =
    let here = keys_out-has s.sent (attempt - 1) a (sent_at_place s attempt a there).1 out in
    let waits : 0 < times a.key s.run.keys.waiting = omega (arith, here, h.placed a.key) in
    (waits, (h.once a.key).1 waits)

by-tail-if : (run : Run) (r : Reply) (a : Attempt) → r.key ≡ a.key → a.is_out ≡ true → holds run.keys.done r.key ≡ false →
    verdict_at run r (Some a) ≡ by_tail run.keys r r.tail
by-tail-if run r a key out fresh = rw (same_keys r.key a.key key) (rw out (rw fresh refl))

-- a reply of the job of an attempt that is out is judged by how it ends
pub due-verdict : (s : State) (attempt : ℕ) (a : Attempt) (r : Reply) → Sound s → sent_at s attempt ≡ Some a → a.is_out ≡ true → r.key ≡ a.key →
    judged s attempt r ≡ by_tail s.run.keys r r.tail
due-verdict s attempt a r h there out key =
    let none : times r.key s.run.keys.done ≡ 0 = subst (λ (q : List ℕ). times q s.run.keys.done ≡ 0) (sym key) (waits_out s attempt a h there out).1 in
    let fresh : holds s.run.keys.done r.key ≡ false =
    holds_not s.run.keys.done r.key (λ d. absurd (omega (arith, times_of s.run.keys.done r.key d, none))) in
    rw there (by-tail-if s.run r a key out fresh)

tail-taken : (keys : KnownKeys) (r : Reply) (t : Tail) → SaysEnd t → are_new (keys.waiting ++ keys.done) r.keys ≡ true → by_tail keys r t ≡ Accepted
tail-taken keys r (End count) i e = rw e refl
tail-taken keys r (Overflow o) i e = absurd i
tail-taken keys r Memory i e = absurd i

-- one that ends in `end` and parts the share of its job is accepted
pub due-accepted : (search : Search) (s : State) → IsLegalState search s → (attempt : ℕ) (a : Attempt) (r : Reply) → sent_at s attempt ≡ Some a → a.is_out ≡ true →
    r.key ≡ a.key → SaysEnd r.tail → IsLegalReply search r → judged s attempt r ≡ Accepted
due-accepted search s h attempt a r there out key ends splits =
    let keys = keys_in_state search s h in
    let waits : 0 < times r.key s.run.keys.waiting =
    subst (λ (q : List ℕ). 0 < times q s.run.keys.waiting) (sym key) (waits_out s attempt a h.sound there out).0 in
    let fits : FitsIn s.run.keys r = subst (λ (z : KnownKeys). FitsIn z r) (sym keys)
    (honest_keys_are_new search h.replies h.payloads r h.legal
    (subst (λ (z : KnownKeys). Contains z.waiting r.key) keys (member_of s.run.keys.waiting r.key waits)) splits) in
    due-verdict s attempt a r h.sound there out key ∙ tail-taken s.run.keys r r.tail ends fits.new_keys

-- ---- a reply that ends the call
pub record IsEndOf (r : Reply) (sent : Option Attempt) (o : Passed) : Type 0 where
  pub attempt : Attempt
  pub there : sent ≡ Some attempt
  pub key : r.key ≡ attempt.key
  pub tail : r.tail ≡ Overflow o

tail-ends : (keys : KnownKeys) (r : Reply) (t : Tail) (o : Passed) → by_tail keys r t ≡ Ends o → t ≡ Overflow o
tail-ends keys r (End count) o e = elim (cases_Bool (are_new (keys.waiting ++ keys.done) r.keys)) [
  | inl y ↦ let q : Accepted ≡ Ends o = rw y at e in absurd cc
  | inr n ↦ let q : Loss ≡ Ends o = rw n at e in absurd cc
]
tail-ends keys r (Overflow p) o e = let q : p ≡ o = cc in ap Overflow q
tail-ends keys r Memory o e = absurd cc

pub ends-means : (run : Run) (r : Reply) (sent : Option Attempt) (o : Passed) → verdict_at run r sent ≡ Ends o → IsEndOf r sent o
ends-means run r None o e = absurd cc
ends-means run r (Some t) o e = elim (cases_Bool (is_same_key r.key t.key)) [
  | inl w ↦
      let e1 = rw w at e in
      elim (cases_Bool (t.is_out && not (holds run.keys.done r.key))) [
        | inl b ↦ record { attempt = t; there = refl; key = same_means r.key t.key w; tail = tail-ends run.keys r r.tail o (rw b at e1) }
        | inr b ↦ let q : Stray ≡ Ends o = rw b at e1 in absurd cc
      ]
  | inr w ↦ let q : Loss ≡ Ends o = rw w at e in absurd cc
]
