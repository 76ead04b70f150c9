-- The course of a call: the steps of the machine from the records before it, and what the workers tell of them.
use Rattle.std.specs.Prelude.{◌≡◌, ℕ, true, false, List, [], ◌∷◌, ◌++◌}
use Rattle.work_core.specs.declared.budget.Budget.{Budget}
use Rattle.work_core.specs.Searches.{Search}
use Rattle.job_text.specs.declared.job.JobHead.{JobHead}
use Rattle.job_text.specs.declared.reply.Reply.{Reply}
use Rattle.job_text.specs.Jobs.{text_of_job}
use Rattle.run_state.specs.Runs.{first_run, run_of}
use Rattle.workers_io.specs.History.{Happening, started, refused, replied, broken}
use Rattle.coordinator_core.specs.declared.options.Options.{Options}
use Rattle.coordinator_core.specs.declared.event.Event.{Event}
use Rattle.coordinator_core.specs.declared.event.Event.TheVariants.{Lost}
use Rattle.coordinator_core.specs.declared.verdict.Verdict.{Verdict}
use Rattle.coordinator_core.specs.declared.verdict.Verdict.TheVariants.{Accepted, Stray, Loss, Ends}
use Rattle.coordinator_core.specs.Machine.{State, start_of, verdict_of}
use Rattle.coordinator_core.specs.Events.{IsEventOf}
use Rattle.coordinator_core.specs.Traces.{Step, hands, collects, stepped, Trace, accepted}

-- what the job of a key with a budget asks for
abbrev pub job_head_of : Search → List ℕ → Budget → JobHead
job_head_of s key budget = record { work = s.work; root = record { key = s.root }; key = key; budget = budget }

-- the text that is given to its attempt
abbrev pub text_for : Search → List ℕ → Budget → List ℕ
text_for s key budget = text_of_job (job_head_of s key budget) s.polyhedron.text

-- ---- what is told of a step

-- what a collect gave is this event to the machine
abbrev pub IsToldAsEvent : State → Event → Happening → Type 0
IsToldAsEvent s e (replied attempt bytes) = IsEventOf s attempt bytes e
IsToldAsEvent s e (broken attempt) = e ≡ Lost attempt
IsToldAsEvent s e (started attempt text) = ⊥
IsToldAsEvent s e (refused attempt text) = ⊥

abbrev pub IsToldAs : State → Step → Happening → Type 0
IsToldAs s (hands attempt key budget true) h = h ≡ started attempt (text_for s.run.search key budget)
IsToldAs s (hands attempt key budget false) h = h ≡ refused attempt (text_for s.run.search key budget)
IsToldAs s (collects e) h = IsToldAsEvent s e h

abbrev pub AreToldAs : State → List Step → List Happening → Type 0
AreToldAs s [] [] = Unit {0}
AreToldAs s (step ∷ steps) (h ∷ happenings) = IsToldAs s step h × AreToldAs (stepped s step) steps happenings
AreToldAs s [] (h ∷ happenings) = ⊥
AreToldAs s (step ∷ steps) [] = ⊥

-- ---- the bytes that are recorded

-- those of an accepted reply
abbrev pub kept_text : Verdict → Happening → List (List ℕ)
kept_text Accepted (replied attempt bytes) = bytes ∷ []
kept_text Accepted (started attempt text) = []
kept_text Accepted (refused attempt text) = []
kept_text Accepted (broken attempt) = []
kept_text Stray h = []
kept_text Loss h = []
kept_text (Ends o) h = []

abbrev pub text_in : State → Step → Happening → List (List ℕ)
text_in s (hands attempt key budget began) h = []
text_in s (collects e) h = kept_text (verdict_of s e) h

-- the bytes of the accepted replies, in order
abbrev pub accepted_texts : State → List Step → List Happening → List (List ℕ)
accepted_texts s [] happenings = []
accepted_texts s (step ∷ steps) [] = []
accepted_texts s (step ∷ steps) (h ∷ happenings) = text_in s step h ++ accepted_texts (stepped s step) steps happenings

-- ---- a call

-- it goes on from records, or begins with the first of them alone
pub record Course : Type 0 where
  pub options : Options
  -- what the records say: the search, and the replies so far
  pub search : Search
  pub replies : List Reply
  pub steps : List Step
  -- what the workers tell of the steps
  pub happenings : List Happening
  -- the state to which they lead
  pub last : State

abbrev pub start_in : Course → State
start_in c = start_of c.options (run_of (first_run c.search) c.replies)

pub record IsCourse (c : Course) : Type 0 where
  pub trace : Trace (start_in c) c.steps c.last
  pub told_as : AreToldAs (start_in c) c.steps c.happenings

-- the replies of the records after it
abbrev pub replies_after : Course → List Reply
replies_after c = c.replies ++ accepted (start_in c) c.steps

-- the payloads that it adds to the records
abbrev pub payloads_added : Course → List (List ℕ)
payloads_added c = accepted_texts (start_in c) c.steps c.happenings
