-- What a call does, told by its workers: steps of the machine.
use Rattle.std.specs.Prelude.{◌≡◌, ◌⊎◌, ◌+◌, ◌-◌, ◌≤◌, ℕ, true, List, [], ◌∷◌, length, Option, Some}
use Rattle.std.specs.List.{Contains}
use Rattle.poly_model.specs.declared.overflow.Overflow.{Overflow as Passed}
use Rattle.job_ledger.specs.Ledgers.{Known, end_of}
use Rattle.workers_io.specs.History.{Happening, Tells}
use Rattle.coordinator_core.specs.declared.action.Action.{Action}
use Rattle.coordinator_core.specs.declared.action.Action.TheVariants.{Hand, Collect, Finish, GiveUp}
use Rattle.coordinator_core.specs.declared.event.Event.{Event}
use Rattle.coordinator_core.specs.declared.verdict.Verdict.TheVariants.{Ends}
use Rattle.coordinator_core.specs.Machine.{Attempt, State, next_action, sent_at, verdict_of}
use Rattle.coordinator_core.specs.Traces.{Step, Trace}
use Rattle.coordinator_laws.specs.Courses.{AreToldAs, IsToldAsEvent, accepted_texts}
use Rattle.coordinator_laws.specs.Ends.{left_to_do}
use Rattle.coordinator.specs.declared.ending.Ending.{Ending}
use Rattle.coordinator.specs.declared.ending.Ending.TheVariants.{Whole, GivenUp}

-- steps lead from one state to another, the workers tell just these, and these texts are the replies that they accept
pub record LeadsTo (s last : State) (old new : Option (List Happening)) (texts : List (List ℕ)) : Type 0 where
  pub steps : List Step
  pub trace : Trace s steps last
  pub happenings : List Happening
  pub told_as : AreToldAs s steps happenings
  pub told : Tells old new happenings
  pub accepts : texts ≡ accepted_texts s steps happenings

-- they lead there in one step at most
pub record StepsTo (s last : State) (old new : Option (List Happening)) (texts : List (List ℕ)) : Type 0 where
  pub leads : LeadsTo s last old new texts
  pub one : length leads.steps ≤ 1

-- so it goes, and then a reply comes that ends in `overflow`, and ends the call
pub record EndsBy (s : State) (o : Passed) (old new : Option (List Happening)) (texts : List (List ℕ)) : Type 0 where
  pub last : State
  pub before : Option (List Happening)
  pub goes : LeadsTo s last old before texts
  pub waits : next_action last ≡ Collect
  pub event : Event
  pub happening : Happening
  pub told_as : IsToldAsEvent last event happening
  pub told : Tells before new (happening ∷ [])
  pub ends : verdict_of last event ≡ Ends o

-- it goes on, wherever it stops: where the memory is refused, a reply that ends the call may have come
abbrev pub LeadsSomewhere : State → Option (List Happening) → Option (List Happening) → List (List ℕ) → Type 0
LeadsSomewhere s old new texts =
    ((last : State) × LeadsTo s last old new texts) ⊎ ((o : Passed) × EndsBy s o old new texts)

-- it goes to where nothing is left to do
pub record Finishes (s : State) (old new : Option (List Happening)) (texts : List (List ℕ)) : Type 0 where
  pub last : State
  pub goes : LeadsTo s last old new texts
  pub finish : next_action last ≡ Finish

-- it goes to where losses and strays are too many
pub record GivesUp (s : State) (losses strays : ℕ) (old new : Option (List Happening)) (texts : List (List ℕ)) : Type 0 where
  pub last : State
  pub goes : LeadsTo s last old new texts
  pub gives_up : next_action last ≡ GiveUp losses strays

-- each attempt that is out in the machine is out at the workers
abbrev pub AreOut : State → List ℕ → Type 0
AreOut s out = (attempt : ℕ) (a : Attempt) → sent_at s attempt ≡ Some a → a.is_out ≡ true → Contains out attempt

-- a bound on the actions that are left, where the file of the ledger may grow to its limit
abbrev pub most_actions : State → Known → ℕ
most_actions s ledger = (ledger.limit - end_of ledger.sizes) + left_to_do s

-- an action that starts or collects
abbrev pub IsMove : Action → Type 0
IsMove (Hand attempt key budget) = Unit {0}
IsMove Collect = Unit {0}
IsMove Finish = ⊥
IsMove (GiveUp lost strays) = ⊥

-- the action at an ending
abbrev pub last_action : Ending → Action
last_action Whole = Finish
last_action (GivenUp lost strays) = GiveUp lost strays
