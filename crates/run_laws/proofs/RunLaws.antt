-- What a call has printed and left, where its workers are honest.
use Rattle.std.proofs.Common.{arith, ℕ, List, ◌≡◌, inl, inr, ◌<◌, [], ◌∷◌, ◌++◌, refl, sym, ap, ◌∙◌, subst, length, append_assoc, Option}
use Rattle.std.specs.List.{Contains}
use Rattle.poly_num.specs.Vectors.{Vector}
use Rattle.poly_model.specs.Extreme.{AreExtreme, IsExtreme}
use Rattle.poly_model.specs.Systems.{cone_of}
use Rattle.linear_laws.proofs.Members.{Contains-nil}
use Rattle.search_laws.specs.Partitions.{Partition}
use Rattle.listing_laws.proofs.ListingLemmas.{are_extreme}
use Rattle.work_core.specs.Searches.{Search, meaning_of}
use Rattle.job_text.specs.declared.reply.Reply.{Reply}
use Rattle.job_ledger.specs.Records.{Records}
use Rattle.run_state.specs.KeyLists.{KnownKeys}
use Rattle.run_state.specs.Payloads.{AreReplies, IsLedgerText, first_keys, keys_after, keys_of}
use Rattle.run_state.specs.Runs.{Run, first_run, recorded_rows}
use Rattle.run_state.specs.Legal.{AreLegal, IsLegal}
use Rattle.run_state.proofs.FollowLemmas.{run-keys}
use Rattle.run_state.proofs.LegalLaws.{legal_records_part}
use Rattle.run_state.proofs.MeaningLemmas.{one_ledger}
use Rattle.workers_io.specs.History.{Happening}
use Rattle.coordinator_core.specs.declared.options.Options.{Options}
use Rattle.coordinator_core.specs.Machine.{State}
use Rattle.coordinator_laws.specs.Courses.{Course, IsCourse, replies_after}
use Rattle.coordinator_laws.proofs.CourseLaws.{events_keep_legal, events_keep_text, fronts_are_legal, some_records, traces_tell_the_run}
use Rattle.coordinator_laws.proofs.EndLemmas.{none_waits_at_finish}
use Rattle.coordinator.specs.Calls.{state_after}
use Rattle.coordinator.specs.Following.{LeadsTo}
use Rattle.coordinator.specs.Leaving.{HasFront}
use Rattle.run_laws.specs.Laws.{FinishedCallsList, FirstRecordIsLegal, FrontsStayLegal, FrontsStayText, IsHonestCall, IsLedgerFile}
use Rattle.run_laws.proofs.HonestCalls.{of_call, of_earlier}

-- ---- the course of a call
module _ (options : Options) (s : Search) (replies : List Reply) where
  abbrev pub course_of : (last : State) (old new : Option (List Happening)) (texts : List (List ℕ)) → LeadsTo (state_after options s replies) last old new texts → Course
  course_of last old new texts g = record { options = options; search = s; replies = replies; steps = g.steps; happenings = g.happenings; last = last }

  pub is_course : (last : State) (old new : Option (List Happening)) (texts : List (List ℕ)) (g : LeadsTo (state_after options s replies) last old new texts) → IsCourse (course_of last old new texts g)
  is_course last old new texts g = record { trace = g.trace; told_as = g.told_as }

  -- its records are legal
  legal_after : (last : State) (payloads texts : List (List ℕ)) (old new : Option (List Happening)) (g : LeadsTo (state_after options s replies) last old new texts) →
      IsHonestCall options s replies payloads new → AreLegal s (replies_after (course_of last old new texts g)) (payloads ++ texts)
  legal_after last payloads texts old new g h =
      let c = course_of last old new texts g in
      let honest = of_call old new g.happenings g.told h.honest in
      subst (λ (added : List (List ℕ)). AreLegal s (replies_after c) (payloads ++ added)) (sym g.accepts)
      (events_keep_legal c payloads honest.0 h.in_range (is_course last old new texts g) h.legal honest.1)

-- ---- rows that are the whole
whole_is_extreme : (s : Search) (rows : List Vector) (keys : List (List ℕ)) → Partition (IsExtreme (cone_of s.polyhedron)) (meaning_of s).in_share rows keys → keys ≡ [] →
    AreExtreme (cone_of s.polyhedron) rows
whole_is_extreme s rows keys p none =
    are_extreme (cone_of s.polyhedron) rows (record {
      distinct = p.rows_once;
      members = λ y. (
        p.rows_within y,
        λ x. elim (p.covers y x) [
          | inl c ↦ c
          | inr k ↦ absurd (Contains-nil k.0 (subst (λ (l : List (List ℕ)). Contains l k.0) none k.1))
        ],
      );
    })

pub finished_calls_list : FinishedCallsList
finished_calls_list options s replies payloads texts old new h f short recorded text listed is_text counted =
    let c = course_of options s replies f.last old new texts f.goes in
    let legal = legal_after options s replies f.last payloads texts old new f.goes h in
    let course = is_course options s replies f.last old new texts f.goes in
    let one = one_ledger (payloads ++ texts) short s s (replies_after c) recorded legal.is_text is_text in
    let run = traces_tell_the_run c course.trace in
    let keys : c.last.run.keys ≡ keys_of (first_keys s) (replies_after c) = ap (λ (z : Run). z.keys) run ∙ run-keys (first_run s) (replies_after c) in
    let none : (keys_of (first_keys s) (replies_after c)).waiting ≡ [] =
    ap (λ (z : KnownKeys). z.waiting) (sym keys) ∙ none_waits_at_finish c payloads h.in_range course h.legal.is_text f.finish in
    let extreme = whole_is_extreme s (recorded_rows (replies_after c)) (keys_of (first_keys s) (replies_after c)).waiting
    (legal_records_part s (replies_after c) (payloads ++ texts) legal) none in
    record {
      listing = record {
        lines = counted.listing.lines;
        shown = recorded_rows recorded;
        are_lines = counted.listing.are_lines;
        are_extreme = subst (λ (rs : List Reply). AreExtreme (cone_of s.polyhedron) (recorded_rows rs)) one.1 extreme;
        is_text = counted.listing.is_text;
      };
      rows = counted.rows;
      lines = counted.lines;
    }

-- ---- what is left
front_of : (s : Search) (replies : List Reply) (payloads texts : List (List ℕ)) (after : List Reply) → AreLegal s replies payloads → AreLegal s after (payloads ++ texts) →
    (file : List ℕ) → HasFront payloads texts file → (more : List (List ℕ)) × Records (payloads ++ more) file × IsLegal (payloads ++ more)
front_of s replies payloads texts after before all file front =
    let split : payloads ++ texts ≡ (payloads ++ front.front) ++ front.rest =
    ap (λ (x : List (List ℕ)). payloads ++ x) front.split ∙ sym (append_assoc payloads front.front front.rest) in (
      front.front,
      front.has,
      fronts_are_legal (payloads ++ front.front) front.rest (some_records s replies payloads front.front before.is_text)
          (s, after, subst (AreLegal s after) split all),
    )

pub fronts_stay_legal : FrontsStayLegal
fronts_stay_legal options s replies payloads texts old new h (inl (last, g)) file front =
    front_of s replies payloads texts _ h.legal (legal_after options s replies last payloads texts old new g h) file front
fronts_stay_legal options s replies payloads texts old new h (inr (o, e)) file front =
    let earlier : IsHonestCall options s replies payloads e.before = record { in_range = h.in_range; legal = h.legal; honest = of_earlier e.before new _ e.told h.honest } in
    front_of s replies payloads texts _ h.legal (legal_after options s replies e.last payloads texts old e.before e.goes earlier) file front

pub first_record_is_legal : FirstRecordIsLegal
first_record_is_legal s first feasible root = record {
  is_text = record { first = _; others = []; split = refl; is_first = first; are_replies = tt };
  feasible = feasible;
  root = root;
  legal = tt;
}

-- ---- what is left whatever the workers gave
-- a call's records stay a ledger text
text_after : (options : Options) (s : Search) (replies : List Reply) (last : State) (payloads texts : List (List ℕ)) (old new : Option (List Happening)) →
    (g : LeadsTo (state_after options s replies) last old new texts) → IsLedgerText s replies payloads →
    IsLedgerText s (replies_after (course_of options s replies last old new texts g)) (payloads ++ texts)
text_after options s replies last payloads texts old new g t =
    let c = course_of options s replies last old new texts g in
    subst (λ (added : List (List ℕ)). IsLedgerText s (replies_after c) (payloads ++ added)) (sym g.accepts)
    (events_keep_text c payloads (is_course options s replies last old new texts g) t)

-- the first payloads of a ledger text are one
record IsFrontText (n : ℕ) (keys : KnownKeys) (front : List (List ℕ)) : Type 0 where
  replies : List Reply
  are_replies : AreReplies n keys front replies

front_replies : (n : ℕ) (keys : KnownKeys) (front rest : List (List ℕ)) (replies : List Reply) → AreReplies n keys (front ++ rest) replies → IsFrontText n keys front
front_replies n keys [] rest replies a = record { replies = []; are_replies = tt }
front_replies n keys (p ∷ front) rest [] a = absurd a
front_replies n keys (p ∷ front) rest (r ∷ replies) a =
    let h = front_replies n (keys_after keys r) front rest replies a.1 in
    record { replies = r ∷ h.replies; are_replies = (a.0, h.are_replies) }

front_text : (s : Search) (replies : List Reply) (front rest : List (List ℕ)) (file : List ℕ) → 0 < length front → IsLedgerText s replies (front ++ rest) → Records front file →
    IsLedgerFile file
front_text s replies [] rest file i t has = absurd (omega (arith, i))
front_text s replies (f ∷ front) rest file i t has =
    let q : (f ∷ (front ++ rest)) ≡ t.first ∷ t.others = t.split in
    let same : f ≡ t.first = cc in
    let others : front ++ rest ≡ t.others = cc in
    let g = front_replies s.polyhedron.n (first_keys s) front rest replies
    (subst (λ (l : List (List ℕ)). AreReplies s.polyhedron.n (first_keys s) l replies) (sym others) t.are_replies) in
    record {
      payloads = f ∷ front;
      has = has;
      search = s;
      replies = g.replies;
      is_text = record { first = t.first; others = front; split = ap (λ (x : List ℕ). x ∷ front) same; is_first = t.is_first; are_replies = g.are_replies };
    }

text_of_front : (s : Search) (replies : List Reply) (payloads texts : List (List ℕ)) (after : List Reply) → IsLedgerText s replies payloads → IsLedgerText s after (payloads ++ texts) →
    (file : List ℕ) → HasFront payloads texts file → IsLedgerFile file
text_of_front s replies payloads texts after before all file front =
    let split : payloads ++ texts ≡ (payloads ++ front.front) ++ front.rest =
    ap (λ (x : List (List ℕ)). payloads ++ x) front.split ∙ sym (append_assoc payloads front.front front.rest) in
    front_text s after (payloads ++ front.front) front.rest file (some_records s replies payloads front.front before) (subst (IsLedgerText s after) split all) front.has

pub fronts_stay_text : FrontsStayText
fronts_stay_text options s replies payloads texts old new t (inl (last, g)) file front =
    text_of_front s replies payloads texts _ t (text_after options s replies last payloads texts old new g t) file front
fronts_stay_text options s replies payloads texts old new t (inr (o, e)) file front =
    text_of_front s replies payloads texts _ t (text_after options s replies e.last payloads texts old e.before e.goes t) file front
