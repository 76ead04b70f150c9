-- Where each attempt is answered in full nothing is lost, and nothing leads nowhere.
use Rattle.std.proofs.Common.{arith, ℕ, zero, suc, List, ◌≡◌, ◌≢◌, inl, inr, ◌<◌, ◌+◌, ◌-◌, ◌==◌, true, false, [], ◌∷◌, ◌++◌, refl, sym, ap, ◌∙◌, subst, length, Option, Some, None, slice_set}
use Rattle.std.specs.List.{AllByRecursion, Contains, slice_get}
use Rattle.std.proofs.lemmas.Bool.{cases_Bool, eqb-true, lt-ltb}
use Rattle.linear_laws.proofs.AllLemmas.{all_both}
use Rattle.linear_laws.proofs.Members.{all_at}
use Rattle.poly_model.specs.declared.kind.WorkKind.{WorkKind}
use Rattle.poly_model.specs.declared.kind.WorkKind.TheVariants.{Subsets, Subtrees}
use Rattle.poly_model.specs.Systems.{Polyhedron}
use Rattle.work_core.specs.declared.budget.Budget.{Budget}
use Rattle.work_core.specs.ReplyLines.{ReplyLine, row_line, job_line, keys_in_lines}
use Rattle.work_core.specs.Searches.{Search, meaning_by, meaning_of}
use Rattle.work_core.specs.Splits.{Splits}
use Rattle.job_text.specs.declared.reply.Reply.{Reply}
use Rattle.job_text.specs.declared.reply.Tail.{Tail}
use Rattle.job_text.specs.declared.reply.Tail.TheVariants.{End, Overflow, Memory}
use Rattle.job_text.specs.FirstPayloads.{IsRootText}
use Rattle.job_text.specs.KeyTexts.{HasKeyText}
use Rattle.job_text.specs.LineTexts.{IsReplyLine}
use Rattle.job_text.specs.Replies.{IsWholeReply}
use Rattle.job_text.specs.Rule.{Obeys}
use Rattle.job_text.proofs.FirstPayloadLemmas.{root_text}
use Rattle.job_text.proofs.OneReplyLemmas.{one_reply}
use Rattle.run_state.specs.KeyLists.{KnownKeys, is_same_key, without_key}
use Rattle.run_state.specs.Payloads.{AreReplies, IsNextPayload, SaysEnd, first_keys, keys_after, keys_of}
use Rattle.run_state.specs.Runs.{Run, first_run, run_after}
use Rattle.run_state.specs.Legal.{IsLegalReply}
use Rattle.run_state.proofs.FollowLemmas.{run-join}
use Rattle.run_state.proofs.PlacedElements.{get-append}
use Rattle.workers_io.specs.History.{Happening, StartedTexts, started, refused, replied, broken, last_text}
use Rattle.coordinator_core.specs.declared.event.Event.TheVariants.{Answer, Lost}
use Rattle.coordinator_core.specs.declared.verdict.Verdict.{Verdict}
use Rattle.coordinator_core.specs.declared.verdict.Verdict.TheVariants.{Accepted, Ends}
use Rattle.coordinator_core.specs.Machine.{Attempt, IsOut, State, after, back, by_tail, by_verdict, handed, judged, recorded_at, sent_at}
use Rattle.coordinator_core.specs.Events.{IsReplyTo}
use Rattle.coordinator_core.specs.Traces.{GoesOn, Step, hands, collects, Trace}
use Rattle.coordinator_core.proofs.AttemptLemmas.{sent_at_place}
use Rattle.coordinator_core.proofs.KeyCounts.{member_of}
use Rattle.coordinator_core.proofs.SoundLemmas.{IsHand, accepted-means, hand-means, sound-taken, waits-accepted}
use Rattle.coordinator_laws.specs.Courses.{AreToldAs, start_in, text_for}
use Rattle.coordinator_laws.specs.Answered.{AreAnswered, AnsweredLoseNothing, HadMemory, IsFullReply, IsFullReplyTo, LosesNothing, starts_without}
use Rattle.coordinator_laws.proofs.AcceptedLemmas.{IsLegalState, due-accepted, due-verdict, keys_in_state, waits_out}
use Rattle.coordinator_laws.proofs.CourseLaws.{has_texts, same_search, sound_at_start}
use Rattle.coordinator_laws.proofs.AnsweredStarts.{AreLastOf, last-pushed, last-without}
use Rattle.coordinator_laws.proofs.FollowLemmas.{run-taken, sound-handed-step}
use Rattle.coordinator_laws.proofs.HonestLemmas.{HasJobTexts, Knows, Text, job_for, knows-hands, knows-start, knows-verdict, started_on}
use Rattle.coordinator_laws.proofs.LedgerLemmas.{legal-join}

-- ---- the keys that wait have texts
texts-given : (n : ℕ) (lines : List ReplyLine) → AllByRecursion (IsReplyLine n) lines → AllByRecursion HasKeyText (keys_in_lines lines)
texts-given n [] h = tt
texts-given n (row_line v ∷ lines) h = texts-given n lines h.1
texts-given n (job_line key ∷ lines) h = (h.0, texts-given n lines h.1)

texts-without : (key : List ℕ) (keys : List (List ℕ)) → AllByRecursion HasKeyText keys → AllByRecursion HasKeyText (without_key key keys)
texts-without key [] h = tt
texts-without key (k ∷ keys) h = elim (cases_Bool (is_same_key key k)) [
  | inl y ↦ rw y (texts-without key keys h.1)
  | inr n ↦ rw n (h.0, texts-without key keys h.1)
]

texts-waiting : (n : ℕ) (keys : KnownKeys) (payloads : List (List ℕ)) (replies : List Reply) → AllByRecursion HasKeyText keys.waiting →
    AreReplies n keys payloads replies → AllByRecursion HasKeyText (keys_of keys replies).waiting
texts-waiting n keys [] [] h a = h
texts-waiting n keys [] (r ∷ replies) h a = absurd a
texts-waiting n keys (p ∷ payloads) [] h a = absurd a
texts-waiting n keys (p ∷ payloads) (r ∷ replies) h a =
    let whole = a.0.whole in
    let given : AllByRecursion HasKeyText r.keys = subst (AllByRecursion HasKeyText) (sym whole.keys) (texts-given n whole.lines whole.fit) in
    texts-waiting n (keys_after keys r) payloads replies (all_both HasKeyText (without_key r.key keys.waiting) r.keys (texts-without r.key keys.waiting h) given) a.1

first-text : (work : WorkKind) (p : Polyhedron) (root : List ℕ) → IsRootText work root → HasKeyText (meaning_by work p root).first_key
first-text Subsets p root h = root_text Subsets [] refl
first-text Subtrees p root h = h

key-text : (search : Search) (s : State) → IsLegalState search s → (attempt : ℕ) (a : Attempt) → sent_at s attempt ≡ Some a → a.is_out ≡ true → HasKeyText a.key
key-text search s h attempt a there out =
    let t = h.legal.is_text in
    let all = texts-waiting search.polyhedron.n (first_keys search) t.others h.replies (first-text search.work search.polyhedron search.root t.is_first.root, tt) t.are_replies in
    let waits : Contains s.run.keys.waiting a.key = member_of s.run.keys.waiting a.key (waits_out s attempt a h.sound there out).0 in
    all_at HasKeyText (keys_of (first_keys search) h.replies).waiting all a.key
    (subst (λ (z : KnownKeys). Contains z.waiting a.key) (keys_in_state search s h) waits)

-- ---- places
sent-at : (s : State) (b : ℕ) (u : Attempt) → (0 < b) → slice_get s.sent (b - 1) ≡ Some u → sent_at s b ≡ Some u
sent-at s b u h e = rw (lt-ltb 0 b h) e

get-last : {X : Type 0} (xs : List X) (x : X) → slice_get (xs ++ x ∷ []) (length xs) ≡ Some x
get-last [] x = refl
get-last (y ∷ xs) x = get-last xs x

get-other : {X : Type 0} (xs : List X) (b : ℕ) (v : X) (a : ℕ) (y : X) → slice_get xs a ≡ Some y → a ≢ b → slice_get (slice_set xs b v) a ≡ Some y
get-other [] b v a y e n = e
get-other (x ∷ xs) zero v zero y e n = absurd (n refl)
get-other (x ∷ xs) zero v (suc a) y e n = e
get-other (x ∷ xs) (suc b) v zero y e n = e
get-other (x ∷ xs) (suc b) v (suc a) y e n = get-other xs b v a y e (λ q. n (ap suc q))

module _ (search : Search) (texts : HasJobTexts search) where
  -- where a course has led each attempt of which is answered in full: some starts are not yet collected, and their attempts
  -- are out
  record Stands (left all : StartedTexts) (s : State) : Type 0 where
    knows : Knows search texts all s
    legal : IsLegalState search s
    last : AreLastOf left all
    out : (a : ℕ) (text : List ℕ) → last_text a left ≡ Some text → IsOut s a
    nothing : LosesNothing s

  -- ---- a hand
  out-handed : (s : State) (a : ℕ) (key : List ℕ) (budget : Budget) (left : StartedTexts) (text : List ℕ) → a ≡ length s.sent + 1 →
      ((b : ℕ) (t : List ℕ) → last_text b left ≡ Some t → IsOut s b) →
      (b : ℕ) (t : List ℕ) → last_text b ((a, text) ∷ left) ≡ Some t → IsOut (handed s key budget) b
  out-handed s a key budget left text number h b t e =
      let new : Attempt = record { key = key; budget = budget; is_out = true } in
      let u = handed s key budget in
      elim (cases_Bool (b == a)) [
        | inl y ↦
            let same : b ≡ a = eqb-true b a y in
            let place : b - 1 ≡ length s.sent = omega (arith, same, number) in
            record {
              which = new;
              is_sent = sent-at u b new (omega (arith, same, number)) (subst (λ (i : ℕ). slice_get u.sent i ≡ Some new) (sym place) (get-last s.sent new));
              is_out = refl;
            }
        | inr n ↦
            let o = h b t (rw n at e) in
            let p = sent_at_place s b o.which o.is_sent in
            record { which = o.which; is_sent = sent-at u b o.which p.0 (get-append s.sent (new ∷ []) (b - 1) o.which p.1); is_out = o.is_out }
      ]

  stands-handed : (left all : StartedTexts) (s : State) (a : ℕ) (key : List ℕ) (budget : Budget) → Stands left all s → IsHand s a key budget →
      Stands ((a, text_for search key budget) ∷ left) ((a, text_for search key budget) ∷ all) (handed s key budget)
  stands-handed left all s a key budget h p =
      let text = text_for search key budget in
      record {
        knows = knows-hands search texts all s a key budget true p h.knows;
        legal = record {
          sound = sound-handed-step s a key budget true p.rest p.queue h.legal.sound;
          replies = h.legal.replies;
          payloads = h.legal.payloads;
          legal = h.legal.legal;
          run = h.legal.run;
        };
        last = last-pushed left all a text h.last;
        out = out-handed s a key budget left text p.number h.out;
        nothing = record { losses = h.nothing.losses; strays = h.nothing.strays };
      }

  -- ---- a reply
  -- the reply that came is the full one to its job
  record IsFull (s : State) (a : ℕ) (bytes : List ℕ) : Type 0 where
    attempt : Attempt
    there : sent_at s a ≡ Some attempt
    out : attempt.is_out ≡ true
    full : IsFullReply (job_for search texts attempt) bytes

  full-of : (left all : StartedTexts) (s : State) (a : ℕ) (bytes : List ℕ) (o : Option (List ℕ)) → Stands left all s → last_text a left ≡ o → IsFullReplyTo o bytes →
      IsFull s a bytes
  full-of left all s a bytes None h e f = absurd f
  full-of left all s a bytes (Some text) h e f =
      let o = h.out a text e in
      let t = o.which in
      let on = started_on search texts all s a t h.knows o.is_sent in
      let same : text ≡ Text search texts t = let q : Some text ≡ Some (Text search texts t) = sym (h.last a text e) ∙ on.at in cc in
      record {
        attempt = t;
        there = o.is_sent;
        out = o.is_out;
        full = f (job_for search texts t) (record {
          head = record { root = texts.root; key = key-text search s h.legal a t o.is_sent o.is_out; budget = on.budget };
          file = texts.file;
          is_text = same;
        });
      }

  -- to the machine it is an answer
  answer-of : (left all : StartedTexts) (s : State) (a : ℕ) (bytes : List ℕ) → Stands left all s → (f : IsFull s a bytes) → IsReplyTo s a bytes f.full.reply.reply
  answer-of left all s a bytes h f = record {
    which = f.attempt;
    is_sent = f.there;
    key = f.full.reply.key;
    short = f.full.short;
    whole = subst (λ (z : Search). IsWholeReply z.polyhedron.n f.full.reply.reply bytes) (sym h.knows.search_is) f.full.reply.whole;
  }

  -- and there is no other
  one-answer : (left all : StartedTexts) (s : State) (a : ℕ) (bytes : List ℕ) (r : Reply) → Stands left all s → (f : IsFull s a bytes) → IsReplyTo s a bytes r →
      f.full.reply.reply ≡ r
  one-answer left all s a bytes r h f is =
      one_reply search.polyhedron.n f.full.reply.reply r bytes f.full.short f.full.reply.whole
      (subst (λ (z : Search). IsWholeReply z.polyhedron.n r bytes) h.knows.search_is is.whole)

  -- it is accepted, since an overflow would have ended the call
  accepted-tail : (s : State) (a : ℕ) (t : Attempt) (r : Reply) (tail : Tail) → IsLegalState search s → sent_at s a ≡ Some t → t.is_out ≡ true → r.key ≡ t.key →
      r.tail ≡ tail → HadMemory tail → Obeys search t.key t.budget r.rows r.keys tail → GoesOn (judged s a r) →
      (judged s a r ≡ Accepted) × IsLegalReply search r
  accepted-tail s a t r (End count) h there out key e m rule goes =
      let splits : IsLegalReply search r = subst (λ (k : List ℕ). Splits (meaning_of search) k r.rows r.keys) (sym key) rule.0 in
      (due-accepted search s h a t r there out key (subst SaysEnd (sym e) tt) splits, splits)
  accepted-tail s a t r (Overflow o) h there out key e m rule goes =
      let ends : judged s a r ≡ Ends o = due-verdict s a t r h.sound there out key ∙ ap (by_tail s.run.keys r) e in
      absurd (subst GoesOn ends goes)
  accepted-tail s a t r Memory h there out key e m rule goes = absurd m

  accepted-full : (left all : StartedTexts) (s : State) (a : ℕ) (bytes : List ℕ) (r : Reply) → Stands left all s → IsFull s a bytes → IsReplyTo s a bytes r →
      GoesOn (judged s a r) → (judged s a r ≡ Accepted) × IsLegalReply search r
  accepted-full left all s a bytes r h f is goes =
      let one = one-answer left all s a bytes r h f is in
      let t = f.attempt in
      let key : r.key ≡ t.key = subst (λ (q : Reply). q.key ≡ t.key) one f.full.reply.key in
      let memory : HadMemory r.tail = subst (λ (q : Reply). HadMemory q.tail) one f.full.memory in
      let rule : Obeys search t.key t.budget r.rows r.keys r.tail = subst (λ (q : Reply). Obeys search t.key t.budget q.rows q.keys q.tail) one f.full.reply.rule in
      accepted-tail s a t r r.tail h.legal f.there f.out key refl memory rule goes

  -- ---- once it is taken in
  legal-taken : (s : State) (a : ℕ) (bytes : List ℕ) (r : Reply) → IsLegalState search s → s.run.search ≡ search → IsReplyTo s a bytes r → judged s a r ≡ Accepted →
      IsLegalReply search r → IsLegalState search (recorded_at s a r (sent_at s a))
  legal-taken s a bytes r h same is e splits =
      let p = accepted-means s r (sent_at s a) e in
      let n = search.polyhedron.n in
      let keys = keys_in_state search s h in
      let next : IsNextPayload n s.run.keys bytes r = record {
        whole = subst (λ (z : Search). IsWholeReply z.polyhedron.n r bytes) same is.whole;
        ends = p.ends;
        fits = record { waits = member_of s.run.keys.waiting r.key (waits-accepted s a r p h.sound); new_keys = p.new_keys };
      } in
      record {
        sound = sound-taken s a r p h.sound;
        replies = h.replies ++ r ∷ [];
        payloads = h.payloads ++ bytes ∷ [];
        legal = legal-join search h.replies (r ∷ []) h.payloads (bytes ∷ []) h.legal (subst (λ (z : KnownKeys). IsNextPayload n z bytes r) keys next, tt) (splits, tt);
        run = run-taken s a r p ∙ ap (λ (z : Run). run_after z r) h.run ∙ sym (run-join (first_run search) h.replies (r ∷ []));
      }

  out-taken : (s : State) (a : ℕ) (r : Reply) (t : Attempt) (left : StartedTexts) → sent_at s a ≡ Some t → ((b : ℕ) (text : List ℕ) → last_text b left ≡ Some text → IsOut s b) →
      (b : ℕ) (text : List ℕ) → last_text b (starts_without a left) ≡ Some text → IsOut (recorded_at s a r (Some t)) b
  out-taken s a r t left there h b text e =
      let was = last-without left a b text e in
      let o = h b text was.0 in
      let p = sent_at_place s b o.which o.is_sent in
      let q = sent_at_place s a t there in
      let other : (b - 1) ≢ (a - 1) = λ (same : b - 1 ≡ a - 1). was.1 (omega (arith, same, p.0, q.0)) in
      record {
        which = o.which;
        is_sent = sent-at (recorded_at s a r (Some t)) b o.which p.0 (get-other s.sent (a - 1) (back t) (b - 1) o.which p.1 other);
        is_out = o.is_out;
      }

  stands-taken : (left all : StartedTexts) (s : State) (a : ℕ) (bytes : List ℕ) (r : Reply) → Stands left all s → IsReplyTo s a bytes r → judged s a r ≡ Accepted →
      IsLegalReply search r → Stands (starts_without a left) all (by_verdict s (Answer a r) Accepted)
  stands-taken left all s a bytes r h is e splits =
      let p = accepted-means s r (sent_at s a) e in
      record {
        knows = knows-verdict search texts all s a r Accepted h.knows;
        legal = legal-taken s a bytes r h.legal h.knows.search_is is e splits;
        last = λ b text q. h.last b text (last-without left a b text q).0;
        out = subst (λ (o : Option Attempt). (b : ℕ) (text : List ℕ) → last_text b (starts_without a left) ≡ Some text → IsOut (recorded_at s a r o) b) (sym p.there)
            (out-taken s a r p.attempt left p.there h.out);
        nothing = nothing-taken (sent_at s a);
      }
    where
      nothing-taken : (o : Option Attempt) → LosesNothing (recorded_at s a r o)
      nothing-taken None = h.nothing
      nothing-taken (Some t) = record { losses = h.nothing.losses; strays = h.nothing.strays }

  -- ---- a course
  loses-follow : (left all : StartedTexts) (s t : State) (steps : List Step) (hs : List Happening) → Stands left all s → Trace s steps t → AreToldAs s steps hs →
      AreAnswered left hs → LosesNothing t
  loses-follow left all s t [] hs h m told f = subst LosesNothing (sym m) h.nothing
  loses-follow left all s t (step ∷ steps) [] h m told f = absurd told
  loses-follow left all s t (hands a key budget true ∷ steps) (x ∷ hs) h m told f =
      let p = hand-means s a key budget m.0 in
      let text = text_for search key budget in
      let q : x ≡ started a text = told.0 ∙ ap (λ (z : Search). started a (text_for z key budget)) h.knows.search_is in
      loses-follow ((a, text) ∷ left) ((a, text) ∷ all) (handed s key budget) t steps hs (stands-handed left all s a key budget h p) m.1 told.1
      (subst (λ (z : Happening). AreAnswered left (z ∷ hs)) q f)
  loses-follow left all s t (hands a key budget false ∷ steps) (x ∷ hs) h m told f =
      absurd (subst (λ (z : Happening). AreAnswered left (z ∷ hs)) told.0 f)
  loses-follow left all s t (collects (Answer a r) ∷ steps) (replied b bytes ∷ hs) h m told f =
      let is : IsReplyTo s a bytes r = subst (λ (n : ℕ). IsReplyTo s n bytes r) (sym told.0.0) told.0.1 in
      let answered : AreAnswered left (replied a bytes ∷ hs) = subst (λ (n : ℕ). AreAnswered left (replied n bytes ∷ hs)) (sym told.0.0) f in
      let full = full-of left all s a bytes (last_text a left) h refl answered.0 in
      let all_well = accepted-full left all s a bytes r h full is m.0.1 in
      let stands = stands-taken left all s a bytes r h is all_well.0 all_well.1 in
      let next : Stands (starts_without a left) all (after s (Answer a r)) =
      subst (λ (v : Verdict). Stands (starts_without a left) all (by_verdict s (Answer a r) v)) (sym all_well.0) stands in
      loses-follow (starts_without a left) all (after s (Answer a r)) t steps hs next m.1 told.1 answered.1
  loses-follow left all s t (collects (Answer a r) ∷ steps) (broken b ∷ hs) h m told f = absurd f
  loses-follow left all s t (collects (Answer a r) ∷ steps) (started b text ∷ hs) h m told f = absurd told.0
  loses-follow left all s t (collects (Answer a r) ∷ steps) (refused b text ∷ hs) h m told f = absurd told.0
  loses-follow left all s t (collects (Lost a) ∷ steps) (replied b bytes ∷ hs) h m told f =
      let full = full-of left all s b bytes (last_text b left) h refl f.0 in
      absurd (told.0.1 full.full.reply.reply (answer-of left all s b bytes h full))
  loses-follow left all s t (collects (Lost a) ∷ steps) (broken b ∷ hs) h m told f = absurd f
  loses-follow left all s t (collects (Lost a) ∷ steps) (started b text ∷ hs) h m told f = absurd told.0
  loses-follow left all s t (collects (Lost a) ∷ steps) (refused b text ∷ hs) h m told f = absurd told.0

pub answered_lose_nothing : AnsweredLoseNothing
answered_lose_nothing c payloads o h legal answered =
    let texts = has_texts c.search c.replies payloads legal.is_text in
    let s = start_in c in
    loses-follow c.search texts [] [] s c.last c.steps c.happenings
    (record {
      knows = knows-start c.search texts [] s o (same_search c) refl;
      legal = record { sound = sound_at_start c payloads legal.is_text; replies = c.replies; payloads = payloads; legal = legal; run = refl };
      last = λ a text e. e;
      out = λ a text e. let q : None ≡ Some text = e in absurd cc;
      nothing = record { losses = refl; strays = refl };
    }) h.trace h.told_as answered
