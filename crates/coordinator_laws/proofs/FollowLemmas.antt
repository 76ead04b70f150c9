-- Each step of the machine, told by workers, keeps the records a ledger text.
use Rattle.std.proofs.Common.{ℕ, List, ◌≡◌, inl, inr, Bool, true, false, [], ◌∷◌, ◌++◌, refl, sym, ap, ◌∙◌, subst, Option, Some, None}
use Rattle.std.proofs.lemmas.Bool.{cases_Bool}
use Rattle.work_core.specs.declared.budget.Budget.{Budget}
use Rattle.work_core.specs.Searches.{Search}
use Rattle.job_text.specs.declared.reply.Reply.{Reply}
use Rattle.job_text.specs.Replies.{IsWholeReply}
use Rattle.run_state.specs.Payloads.{AreReplies}
use Rattle.run_state.specs.Runs.{Run, run_after, run_of}
use Rattle.coordinator_core.proofs.KeyCounts.{member_of}
use Rattle.workers_io.specs.History.{Happening, started, refused, replied, broken}
use Rattle.coordinator_core.specs.declared.event.Event.{Event}
use Rattle.coordinator_core.specs.declared.event.Event.TheVariants.{Answer, Lost}
use Rattle.coordinator_core.specs.declared.verdict.Verdict.{Verdict}
use Rattle.coordinator_core.specs.declared.verdict.Verdict.TheVariants.{Accepted, Stray, Loss, Ends}
use Rattle.coordinator_core.specs.Machine.{Attempt, State, after, by_verdict, handed, judged, lost_at, sent_at, recorded_at}
use Rattle.coordinator_core.specs.Events.{IsReplyTo}
use Rattle.coordinator_core.specs.Traces.{Step, hands, collects, stepped, Trace, accepted, kept_reply}
use Rattle.coordinator_core.proofs.SoundLemmas.{IsAccepted, Sound, accepted-means, hand-means, sound-after, sound-handed, sound-lost, waits-accepted}
use Rattle.coordinator_laws.specs.Courses.{AreToldAs, accepted_texts, kept_text}

-- ---- what stays
pub run-lost : (s : State) (a : ℕ) (o : Option Attempt) → (lost_at s a o).run ≡ s.run
run-lost s a None = refl
run-lost s a (Some t) = elim (cases_Bool t.is_out) [ inl y ↦ rw y refl | inr n ↦ rw n refl ]

pub run-handed : (s : State) (a : ℕ) (key : List ℕ) (budget : Budget) (began : Bool) → (stepped s (hands a key budget began)).run ≡ s.run
run-handed s a key budget true = refl
run-handed s a key budget false = run-lost (handed s key budget) a (sent_at (handed s key budget) a)

pub run-taken : (s : State) (a : ℕ) (r : Reply) (p : IsAccepted s r (sent_at s a)) → (recorded_at s a r (sent_at s a)).run ≡ run_after s.run r
run-taken s a r p = rw p.there refl

pub run-verdict : (s : State) (a : ℕ) (r : Reply) (v : Verdict) → judged s a r ≡ v → (by_verdict s (Answer a r) v).run ≡ run_of s.run (kept_reply (Answer a r) v)
run-verdict s a r Accepted e = run-taken s a r (accepted-means s r (sent_at s a) e)
run-verdict s a r Stray e = refl
run-verdict s a r Loss e = run-lost s a (sent_at s a)
run-verdict s a r (Ends o) e = refl

pub sound-handed-step : (s : State) (a : ℕ) (key : List ℕ) (budget : Budget) (began : Bool) (rest : List (List ℕ)) → s.queue ≡ key ∷ rest → Sound s → Sound (stepped s (hands a key budget began))
sound-handed-step s a key budget true rest q h = sound-handed s key budget rest q h
sound-handed-step s a key budget false rest q h = sound-lost (handed s key budget) a (sound-handed s key budget rest q h)

-- ---- the records stay a ledger text
module _ (search : Search) where
  abbrev Goes : Run → List (List ℕ) → List Reply → Type 0
  Goes run texts replies = AreReplies search.polyhedron.n run.keys texts replies

  next-accepted : (s : State) (a : ℕ) (bytes : List ℕ) (r : Reply) (texts : List (List ℕ)) (replies : List Reply) → s.run.search ≡ search → Sound s →
      IsReplyTo s a bytes r → IsAccepted s r (sent_at s a) → Goes (run_after s.run r) texts replies → Goes s.run (bytes ∷ texts) (r ∷ replies)
  next-accepted s a bytes r texts replies same h is p g = (
    record {
      whole = subst (λ (z : Search). IsWholeReply z.polyhedron.n r bytes) same is.whole;
      ends = p.ends;
      fits = record { waits = member_of s.run.keys.waiting r.key (waits-accepted s a r p h); new_keys = p.new_keys };
    },
    g,
  )

  text-verdict : (s : State) (a b : ℕ) (bytes : List ℕ) (r : Reply) (v : Verdict) (texts : List (List ℕ)) (replies : List Reply) → judged s a r ≡ v →
      s.run.search ≡ search → Sound s → IsReplyTo s a bytes r → Goes (by_verdict s (Answer a r) v).run texts replies →
      Goes s.run (kept_text v (replied b bytes) ++ texts) (kept_reply (Answer a r) v ++ replies)
  text-verdict s a b bytes r Accepted texts replies e same h is g =
      let p = accepted-means s r (sent_at s a) e in
      next-accepted s a bytes r texts replies same h is p (subst (λ (z : Run). Goes z texts replies) (run-taken s a r p) g)
  text-verdict s a b bytes r Stray texts replies e same h is g = g
  text-verdict s a b bytes r Loss texts replies e same h is g = subst (λ (z : Run). Goes z texts replies) (run-lost s a (sent_at s a)) g
  text-verdict s a b bytes r (Ends o) texts replies e same h is g = g

  search-verdict : (s : State) (a : ℕ) (r : Reply) (v : Verdict) → judged s a r ≡ v → s.run.search ≡ search → (by_verdict s (Answer a r) v).run.search ≡ search
  search-verdict s a r Accepted e same = ap (λ (z : Run). z.search) (run-taken s a r (accepted-means s r (sent_at s a) e)) ∙ same
  search-verdict s a r Stray e same = same
  search-verdict s a r Loss e same = ap (λ (z : Run). z.search) (run-lost s a (sent_at s a)) ∙ same
  search-verdict s a r (Ends o) e same = same

  search-after : (s : State) (e : Event) → s.run.search ≡ search → (after s e).run.search ≡ search
  search-after s (Answer a r) same = search-verdict s a r (judged s a r) refl same
  search-after s (Lost a) same = ap (λ (z : Run). z.search) (run-lost s a (sent_at s a)) ∙ same

  pub texts-follow : (s t : State) (steps : List Step) (hs : List Happening) → s.run.search ≡ search → Sound s → Trace s steps t → AreToldAs s steps hs →
      Goes s.run (accepted_texts s steps hs) (accepted s steps)
  texts-follow s t [] hs same h m k = tt
  texts-follow s t (step ∷ steps) [] same h m k = absurd k
  texts-follow s t (hands a key budget began ∷ steps) (x ∷ hs) same h m k =
      let p = hand-means s a key budget m.0 in
      let u = stepped s (hands a key budget began) in
      let kept = run-handed s a key budget began in
      subst (λ (z : Run). Goes z (accepted_texts u steps hs) (accepted u steps)) kept
      (texts-follow u t steps hs (ap (λ (z : Run). z.search) kept ∙ same) (sound-handed-step s a key budget began p.rest p.queue h) m.1 k.1)
  texts-follow s t (collects (Answer a r) ∷ steps) (replied b bytes ∷ hs) same h m k =
      let u = after s (Answer a r) in
      let is : IsReplyTo s a bytes r = subst (λ (n : ℕ). IsReplyTo s n bytes r) (sym k.0.0) k.0.1 in
      text-verdict s a b bytes r (judged s a r) (accepted_texts u steps hs) (accepted u steps) refl same h is
      (texts-follow u t steps hs (search-after s (Answer a r) same) (sound-after s (Answer a r) h) m.1 k.1)
  texts-follow s t (collects (Answer a r) ∷ steps) (broken b ∷ hs) same h m k = let never : Answer a r ≡ Lost b = k.0 in absurd cc
  texts-follow s t (collects (Answer a r) ∷ steps) (started b text ∷ hs) same h m k = absurd k.0
  texts-follow s t (collects (Answer a r) ∷ steps) (refused b text ∷ hs) same h m k = absurd k.0
  texts-follow s t (collects (Lost a) ∷ steps) (x ∷ hs) same h m k =
      let u = after s (Lost a) in
      subst (λ (z : Run). Goes z (accepted_texts u steps hs) (accepted u steps)) (run-lost s a (sent_at s a))
      (texts-follow u t steps hs (search-after s (Lost a) same) (sound-after s (Lost a) h) m.1 k.1)

-- ---- the run of a trace
pub runs-follow : (s t : State) (steps : List Step) → Trace s steps t → t.run ≡ run_of s.run (accepted s steps)
runs-follow s t [] m = ap (λ (z : State). z.run) m
runs-follow s t (hands a key budget began ∷ steps) m =
    let u = stepped s (hands a key budget began) in
    runs-follow u t steps m.1 ∙ ap (λ (z : Run). run_of z (accepted u steps)) (run-handed s a key budget began)
runs-follow s t (collects (Answer a r) ∷ steps) m =
    let u = after s (Answer a r) in
    runs-follow u t steps m.1 ∙ by (judged s a r) refl (accepted u steps)
  where
    by : (v : Verdict) → judged s a r ≡ v → (rest : List Reply) → run_of (by_verdict s (Answer a r) v).run rest ≡ run_of s.run (kept_reply (Answer a r) v ++ rest)
    by Accepted e rest = ap (λ (z : Run). run_of z rest) (run-verdict s a r Accepted e)
    by Stray e rest = refl
    by Loss e rest = ap (λ (z : Run). run_of z rest) (run-verdict s a r Loss e)
    by (Ends o) e rest = refl
runs-follow s t (collects (Lost a) ∷ steps) m =
    let u = after s (Lost a) in
    runs-follow u t steps m.1 ∙ ap (λ (z : Run). run_of z (accepted u steps)) (run-lost s a (sent_at s a))

pub sounds-follow : (s t : State) (steps : List Step) → Sound s → Trace s steps t → Sound t
sounds-follow s t [] h m = subst Sound (sym m) h
sounds-follow s t (hands a key budget began ∷ steps) h m =
    let p = hand-means s a key budget m.0 in
    sounds-follow (stepped s (hands a key budget began)) t steps (sound-handed-step s a key budget began p.rest p.queue h) m.1
sounds-follow s t (collects e ∷ steps) h m = sounds-follow (after s e) t steps (sound-after s e h) m.1
