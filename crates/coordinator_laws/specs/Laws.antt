-- What a call makes of the records.
use Rattle.std.specs.Prelude.{◌≡◌, ℕ, List, [], ◌∷◌, ◌++◌, true, Some}
use Rattle.poly_model.specs.declared.overflow.Overflow.{Overflow as Passed}
use Rattle.poly_model.specs.Overflows.{Passes}
use Rattle.job_text.specs.declared.reply.Reply.{Reply}
use Rattle.job_text.specs.Rule.{IsReplyFor}
use Rattle.run_state.specs.Payloads.{IsLedgerText, SaysEnd}
use Rattle.run_state.specs.Runs.{first_run, run_of}
use Rattle.run_state.specs.Legal.{AreLegal, IsLegalReply}
use Rattle.workers_io.specs.History.{Happening, IsHonest, StartedTexts}
use Rattle.coordinator_core.specs.declared.event.Event.{Event}
use Rattle.coordinator_core.specs.declared.verdict.Verdict.TheVariants.{Accepted, Ends}
use Rattle.coordinator_core.specs.Machine.{AreOptions, Attempt, judged, sent_at, verdict_of}
use Rattle.coordinator_core.specs.Traces.{Trace}
use Rattle.coordinator_laws.specs.Courses.{Course, IsCourse, IsToldAsEvent, start_in, replies_after, payloads_added}

-- whatever the workers gave, the records stay a ledger text
abbrev pub EventsKeepText : Type 0
EventsKeepText =
    (c : Course) (payloads : List (List ℕ)) → IsCourse c → IsLedgerText c.search c.replies payloads →
    IsLedgerText c.search (replies_after c) (payloads ++ payloads_added c)

-- the run of the state that a trace leads to is that of all the replies
abbrev pub TracesTellTheRun : Type 0
TracesTellTheRun =
    (c : Course) → Trace (start_in c) c.steps c.last → c.last.run ≡ run_of (first_run c.search) (replies_after c)

-- whatever was started before, legal records stay legal where what the workers gave is honest
abbrev pub EventsKeepLegal : Type 0
EventsKeepLegal =
    (c : Course) (payloads : List (List ℕ)) (starts : StartedTexts) → AreOptions c.options → IsCourse c →
    AreLegal c.search c.replies payloads → IsHonest IsReplyFor starts c.happenings →
    AreLegal c.search (replies_after c) (payloads ++ payloads_added c)

-- then a reply that ends in `end` and parts the share of its job, to an attempt that is out, is accepted: honest
-- workers cause no clash
abbrev pub HonestIsAccepted : Type 0
HonestIsAccepted =
    (c : Course) (payloads : List (List ℕ)) (starts : StartedTexts) → AreOptions c.options → IsCourse c →
    AreLegal c.search c.replies payloads → IsHonest IsReplyFor starts c.happenings →
    (attempt : ℕ) (a : Attempt) (r : Reply) → sent_at c.last attempt ≡ Some a → a.is_out ≡ true → r.key ≡ a.key →
    SaysEnd r.tail → IsLegalReply c.search r → judged c.last attempt r ≡ Accepted

-- where what comes next of such workers ends the call by an overflow, a product passes
abbrev pub HonestOverflowsPass : Type 0
HonestOverflowsPass =
    (c : Course) (payloads : List (List ℕ)) (starts : StartedTexts) (e : Event) (h : Happening) (o : Passed) →
    AreOptions c.options → IsCourse c → IsLedgerText c.search c.replies payloads →
    IsHonest IsReplyFor starts (c.happenings ++ h ∷ []) → IsToldAsEvent c.last e h → verdict_of c.last e ≡ Ends o →
    Passes c.search.polyhedron o
