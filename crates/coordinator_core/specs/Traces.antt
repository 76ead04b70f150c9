-- Traces: steps of the machine, one after the other. A call that is stopped and begun anew is a new trace from its
-- records.
use Rattle.std.specs.Prelude.{◌≡◌, ℕ, Bool, true, false, List, [], ◌∷◌, ◌++◌}
use Rattle.work_core.specs.declared.budget.Budget.{Budget}
use Rattle.job_text.specs.declared.reply.Reply.{Reply}
use Rattle.coordinator_core.specs.declared.action.Action.TheVariants.{Hand, Collect}
use Rattle.coordinator_core.specs.declared.event.Event.{Event}
use Rattle.coordinator_core.specs.declared.event.Event.TheVariants.{Answer, Lost}
use Rattle.coordinator_core.specs.declared.verdict.Verdict.{Verdict}
use Rattle.coordinator_core.specs.declared.verdict.Verdict.TheVariants.{Accepted, Stray, Loss, Ends}
use Rattle.coordinator_core.specs.Machine.{State, next_action, handed, after_loss, verdict_of, after}

-- an action with what its start or its collect gave
pub data Step : Type 0 where
  -- the attempt of this number is given this key and budget; its start succeeded, or failed
  hands : ℕ → List ℕ → Budget → Bool → Step
  -- this came
  collects : Event → Step

-- a start that failed is a loss
abbrev pub started_or_lost : State → ℕ → Bool → State
started_or_lost s attempt true = s
started_or_lost s attempt false = after_loss s attempt

-- the state after a step
abbrev pub stepped : State → Step → State
stepped s (hands attempt key budget began) = started_or_lost (handed s key budget) attempt began
stepped s (collects e) = after s e

-- the call goes on
abbrev pub GoesOn : Verdict → Type 0
GoesOn (Ends o) = ⊥
GoesOn Accepted = Unit {0}
GoesOn Stray = Unit {0}
GoesOn Loss = Unit {0}

-- the machine may take this step next. What ends the call is no step
abbrev pub MayStep : State → Step → Type 0
MayStep s (hands attempt key budget began) = next_action s ≡ Hand attempt key budget
MayStep s (collects e) = (next_action s ≡ Collect) × GoesOn (verdict_of s e)

-- the steps lead from one state to another
abbrev pub Trace : State → List Step → State → Type 0
Trace s [] t = t ≡ s
Trace s (step ∷ steps) t = MayStep s step × Trace (stepped s step) steps t

-- the reply of an event that is accepted
abbrev pub kept_reply : Event → Verdict → List Reply
kept_reply (Answer attempt r) Accepted = r ∷ []
kept_reply (Answer attempt r) Stray = []
kept_reply (Answer attempt r) Loss = []
kept_reply (Answer attempt r) (Ends o) = []
kept_reply (Lost attempt) verdict = []

abbrev pub accepted_in : State → Step → List Reply
accepted_in s (hands attempt key budget began) = []
accepted_in s (collects e) = kept_reply e (verdict_of s e)

-- the accepted replies, in order
abbrev pub accepted : State → List Step → List Reply
accepted s [] = []
accepted s (step ∷ steps) = accepted_in s step ++ accepted (stepped s step) steps
