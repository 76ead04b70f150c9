-- The laws of a call and of calls one after the other.
use Rattle.std.proofs.Common.{arith, ℕ, List, ◌≡◌, inl, inr, ◌<◌, ◌^◌, [], ◌∷◌, ◌++◌, refl, sym, ap, ◌∙◌, subst, length, append_assoc}
use Rattle.work_core.specs.Searches.{Search, meaning_of}
use Rattle.search_laws.proofs.OnceLists.{one_key_or_not}
use Rattle.job_text.specs.declared.reply.Reply.{Reply}
use Rattle.job_text.specs.declared.reply.Tail.TheVariants.{Overflow}
use Rattle.job_text.specs.Rule.{IsReplyFor, Obeys}
use Rattle.poly_model.specs.declared.overflow.Overflow.{Overflow as Passed}
use Rattle.poly_model.specs.Overflows.{Passes}
use Rattle.run_state.specs.KeyLists.{KnownKeys}
use Rattle.run_state.specs.Payloads.{AreReplies, AreShort, IsLedgerText, first_keys, keys_after, keys_of}
use Rattle.run_state.specs.Runs.{first_run, run_of}
use Rattle.run_state.specs.Legal.{AreLegal, IsLegal}
use Rattle.run_state.proofs.FollowLemmas.{ledger-join, run-join, run-keys, run-search}
use Rattle.run_state.proofs.MeaningLemmas.{one_ledger}
use Rattle.coordinator_core.specs.declared.event.Event.{Event}
use Rattle.coordinator_core.specs.declared.event.Event.TheVariants.{Answer, Lost}
use Rattle.coordinator_core.specs.declared.verdict.Verdict.{Verdict}
use Rattle.coordinator_core.specs.declared.verdict.Verdict.TheVariants.{Accepted, Stray, Loss, Ends}
use Rattle.coordinator_core.specs.Machine.{AreOptions, State, after, judged, sent_at, verdict_of}
use Rattle.coordinator_core.specs.Events.{IsReplyTo}
use Rattle.coordinator_core.specs.Traces.{Step, hands, collects, stepped, accepted}
use Rattle.coordinator_core.proofs.KeyCounts.{WaitsOnce, times-here, times-there, once-next, times_of}
use Rattle.coordinator_core.proofs.SoundLemmas.{Sound, sound-start}
use Rattle.workers_io.specs.History.{Happening, StartedTexts, started, refused, replied, broken, IsAllowed, IsHonest, last_text}
use Rattle.coordinator_laws.specs.Courses.{AreToldAs, Course, IsToldAsEvent, IsCourse, accepted_texts, kept_text, payloads_added, replies_after, start_in}
use Rattle.coordinator_laws.specs.Laws.{EventsKeepLegal, EventsKeepText, HonestIsAccepted, HonestOverflowsPass, TracesTellTheRun}
use Rattle.coordinator_laws.specs.Restarts.{FrontsAreLegal, MayLeave, RestartsKeepLegal}
use Rattle.linear_laws.proofs.AllLemmas.{all_both, all_left}
use Rattle.job_text.proofs.FirstPayloadLemmas.{root_text}
use Rattle.coordinator_laws.proofs.AcceptedLemmas.{IsLegalState, due-accepted, ends-means}
use Rattle.coordinator_laws.proofs.LedgerLemmas.{front_is_legal, legal-join}
use Rattle.coordinator_laws.proofs.FollowLemmas.{runs-follow, sounds-follow, texts-follow}
use Rattle.coordinator_laws.proofs.HonestLemmas.{HasJobTexts, Knows, honest-behind, honest-rule, knows-start, legal-follow}

-- ---- where a call begins
once-after : (n : ℕ) (keys : KnownKeys) (payloads : List (List ℕ)) (replies : List Reply) → ((k : List ℕ) → WaitsOnce keys.waiting keys.done k) →
    AreReplies n keys payloads replies → (k : List ℕ) → WaitsOnce (keys_of keys replies).waiting (keys_of keys replies).done k
once-after n keys [] [] h a = h
once-after n keys [] (r ∷ replies) h a = absurd a
once-after n keys (p ∷ payloads) [] h a = absurd a
once-after n keys (p ∷ payloads) (r ∷ replies) h a =
    once-after n (keys_after keys r) payloads replies
    (once-next keys.waiting keys.done r.key r.keys h (times_of keys.waiting r.key a.0.fits.waits) a.0.fits.new_keys) a.1

once-first : (s : Search) (k : List ℕ) → WaitsOnce (first_keys s).waiting (first_keys s).done k
once-first s k = elim (one_key_or_not k (meaning_of s).first_key) [
  | inl q ↦ (omega (arith, times-here k (meaning_of s).first_key [] q), λ w. refl)
  | inr m ↦ (omega (arith, times-there k (meaning_of s).first_key [] m), λ w. refl)
]

pub sound_at_start : (c : Course) (payloads : List (List ℕ)) → IsLedgerText c.search c.replies payloads → Sound (start_in c)
sound_at_start c payloads t =
    sound-start c.options (run_of (first_run c.search) c.replies)
    (subst (λ (keys : KnownKeys). (k : List ℕ) → WaitsOnce keys.waiting keys.done k) (sym (run-keys (first_run c.search) c.replies))
    (once-after c.search.polyhedron.n (first_keys c.search) t.others c.replies (once-first c.search) t.are_replies))

pub has_texts : (s : Search) (replies : List Reply) (payloads : List (List ℕ)) → IsLedgerText s replies payloads → HasJobTexts s
has_texts s replies payloads t = record { root = root_text s.work s.root t.is_first.root; file = t.is_first.file }

pub same_search : (c : Course) → (start_in c).run.search ≡ c.search
same_search c = run-search (first_run c.search) c.replies

-- ---- one call
are-replies : (c : Course) (payloads : List (List ℕ)) → IsCourse c → IsLedgerText c.search c.replies payloads →
    AreReplies c.search.polyhedron.n (keys_of (first_keys c.search) c.replies) (payloads_added c) (accepted (start_in c) c.steps)
are-replies c payloads h t =
    subst (λ (keys : KnownKeys). AreReplies c.search.polyhedron.n keys (payloads_added c) (accepted (start_in c) c.steps)) (run-keys (first_run c.search) c.replies)
    (texts-follow c.search (start_in c) c.last c.steps c.happenings (same_search c) (sound_at_start c payloads t) h.trace h.told_as)

pub events_keep_text : EventsKeepText
events_keep_text c payloads h t =
    ledger-join c.search c.replies (accepted (start_in c) c.steps) payloads (payloads_added c) t (are-replies c payloads h t)

pub events_keep_legal : EventsKeepLegal
events_keep_legal c payloads starts o h legal honest =
    let texts = has_texts c.search c.replies payloads legal.is_text in
    legal-join c.search c.replies (accepted (start_in c) c.steps) payloads (payloads_added c) legal (are-replies c payloads h legal.is_text)
    (legal-follow c.search texts starts (start_in c) c.last c.steps c.happenings
    (knows-start c.search texts starts (start_in c) o (same_search c) refl) h.trace h.told_as honest)

pub traces_tell_the_run : TracesTellTheRun
traces_tell_the_run c m =
    runs-follow (start_in c) c.last c.steps m ∙ sym (run-join (first_run c.search) c.replies (accepted (start_in c) c.steps))

-- ---- no clash
-- where a course under honest workers has led
pub legal_at : (c : Course) (payloads : List (List ℕ)) (starts : StartedTexts) → AreOptions c.options → IsCourse c → AreLegal c.search c.replies payloads →
    IsHonest IsReplyFor starts c.happenings → IsLegalState c.search c.last
legal_at c payloads starts o h legal honest = record {
  sound = sounds-follow (start_in c) c.last c.steps (sound_at_start c payloads legal.is_text) h.trace;
  replies = replies_after c;
  payloads = payloads ++ payloads_added c;
  legal = events_keep_legal c payloads starts o h legal honest;
  run = traces_tell_the_run c h.trace;
}

pub honest_is_accepted : HonestIsAccepted
honest_is_accepted c payloads starts o h legal honest attempt a r there out key ends splits =
    due-accepted c.search c.last (legal_at c payloads starts o h legal honest) attempt a r there out key ends splits

-- ---- an overflow
passes-at : (search : Search) (texts : HasJobTexts search) (starts : StartedTexts) (s : State) (e : Event) (h : Happening) (o : Passed) → Knows search texts starts s →
    IsHonest IsReplyFor starts (h ∷ []) → IsToldAsEvent s e h → verdict_of s e ≡ Ends o → Passes search.polyhedron o
passes-at search texts starts s (Answer a r) (replied b bytes) o k honest told ends =
    let p = ends-means s.run r (sent_at s a) o ends in
    let is : IsReplyTo s a bytes r = subst (λ (n : ℕ). IsReplyTo s n bytes r) (sym told.0) told.1 in
    let allowed : IsAllowed IsReplyFor (last_text a starts) bytes = subst (λ (n : ℕ). IsAllowed IsReplyFor (last_text n starts) bytes) (sym told.0) honest.0 in
    let t = p.attempt in
    let rule : Obeys search t.key t.budget r.rows r.keys (Overflow o) =
    subst (Obeys search t.key t.budget r.rows r.keys) p.tail (honest-rule search texts starts s a bytes r t k is p.there p.key allowed) in
    rule.0
passes-at search texts starts s (Answer a r) (broken b) o k honest told ends = let never : Answer a r ≡ Lost b = told in absurd cc
passes-at search texts starts s (Answer a r) (started b text) o k honest told ends = absurd told
passes-at search texts starts s (Answer a r) (refused b text) o k honest told ends = absurd told
passes-at search texts starts s (Lost a) h o k honest told ends = absurd cc

pub honest_overflows_pass : HonestOverflowsPass
honest_overflows_pass c payloads starts e h o opts course text honest told ends =
    let texts = has_texts c.search c.replies payloads text in
    let behind = honest-behind c.search texts starts (start_in c) c.last c.steps c.happenings (h ∷ [])
    (knows-start c.search texts starts (start_in c) opts (same_search c) refl) course.trace course.told_as honest in
    passes-at c.search texts behind.starts c.last e h o behind.knows behind.honest told ends

-- ---- calls one after the other
pub fronts_are_legal : FrontsAreLegal
fronts_are_legal = front_is_legal

-- a ledger text has a record
pub some_records : (s : Search) (replies : List Reply) (records front : List (List ℕ)) → IsLedgerText s replies records → 0 < length (records ++ front)
some_records s replies records front t = subst (λ (l : List (List ℕ)). 0 < length (l ++ front)) (sym t.split) (omega arith)

abbrev IsShort : List ℕ → Type 0
IsShort payload = length payload < 2 ^ 64

kept-short : (v : Verdict) (b : ℕ) (bytes : List ℕ) (texts : List (List ℕ)) → IsShort bytes → AreShort texts → AreShort (kept_text v (replied b bytes) ++ texts)
kept-short Accepted b bytes texts short more = (short, more)
kept-short Stray b bytes texts short more = more
kept-short Loss b bytes texts short more = more
kept-short (Ends o) b bytes texts short more = more

-- what is told of an accepted reply are bytes of a machine
short-texts : (s : State) (steps : List Step) (hs : List Happening) → AreToldAs s steps hs → AreShort (accepted_texts s steps hs)
short-texts s [] hs k = tt
short-texts s (step ∷ steps) [] k = tt
short-texts s (hands a key budget began ∷ steps) (x ∷ hs) k = short-texts (stepped s (hands a key budget began)) steps hs k.1
short-texts s (collects (Answer a r) ∷ steps) (replied b bytes ∷ hs) k =
    kept-short (judged s a r) b bytes (accepted_texts (after s (Answer a r)) steps hs) k.0.1.short (short-texts (after s (Answer a r)) steps hs k.1)
short-texts s (collects (Answer a r) ∷ steps) (broken b ∷ hs) k = let never : Answer a r ≡ Lost b = k.0 in absurd cc
short-texts s (collects (Answer a r) ∷ steps) (started b text ∷ hs) k = absurd k.0
short-texts s (collects (Answer a r) ∷ steps) (refused b text ∷ hs) k = absurd k.0
short-texts s (collects (Lost a) ∷ steps) (x ∷ hs) k = short-texts (after s (Lost a)) steps hs k.1

-- what one stopped call leaves
left-legal : (before after : List (List ℕ)) → AreShort before → IsLegal before → MayLeave before after → IsLegal after × AreShort after
left-legal before after short (s, replies, h) l =
    let c = l.course in
    let same = one_ledger before short s c.search replies c.replies h.is_text l.are_records in
    let h1 : AreLegal c.search replies before = subst (λ (z : Search). AreLegal z replies before) same.0 h in
    let h2 : AreLegal c.search c.replies before = subst (λ (rs : List Reply). AreLegal c.search rs before) same.1 h1 in
    let all = events_keep_legal c before l.starts l.in_range l.goes h2 l.honest in
    let texts : (before ++ payloads_added c) ≡ (before ++ l.front) ++ l.rest =
    ap (λ (x : List (List ℕ)). before ++ x) l.split ∙ sym (append_assoc before l.front l.rest) in
    let legal : IsLegal ((before ++ l.front) ++ l.rest) =
    (c.search, replies_after c, subst (AreLegal c.search (replies_after c)) texts all) in
    let added : AreShort (l.front ++ l.rest) = subst AreShort l.split (short-texts (start_in c) c.steps c.happenings l.goes.told_as) in (
      subst IsLegal (sym l.left) (front_is_legal (before ++ l.front) l.rest (some_records s replies before l.front h.is_text) legal),
      subst AreShort (sym l.left) (all_both IsShort before l.front short (all_left IsShort l.front l.rest added)),
    )

pub restarts_keep_legal : RestartsKeepLegal
restarts_keep_legal before [] short h a = h
restarts_keep_legal before (after ∷ afters) short h a =
    let next = left-legal before after short h a.0 in
    restarts_keep_legal after afters next.1 next.0 a.1
