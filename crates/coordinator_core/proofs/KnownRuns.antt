-- Known runs of the machine, which hold the definitions to account.
use Rattle.std.specs.Prelude.{◌≡◌, ℕ, true, false, List, [], ◌∷◌, refl}
use Rattle.poly_model.specs.declared.kind.Kind.TheVariants.{H}
use Rattle.poly_model.specs.declared.kind.WorkKind.TheVariants.{Subsets}
use Rattle.poly_model.specs.Systems.{Polyhedron}
use Rattle.work_core.specs.declared.budget.Budget.{Budget}
use Rattle.job_text.specs.declared.reply.Reply.{Reply}
use Rattle.job_text.specs.declared.reply.Tail.TheVariants.{End}
use Rattle.run_state.specs.Runs.{first_run}
use Rattle.coordinator_core.specs.declared.options.Options.{Options}
use Rattle.coordinator_core.specs.declared.action.Action.TheVariants.{Hand, Collect, Finish, GiveUp}
use Rattle.coordinator_core.specs.declared.event.Event.TheVariants.{Answer, Lost}
use Rattle.coordinator_core.specs.declared.verdict.Verdict.TheVariants.{Accepted, Stray, Loss}
use Rattle.coordinator_core.specs.Machine.{State, after, next_action, start_of, verdict_of}
use Rattle.coordinator_core.specs.Traces.{hands, stepped}

abbrev plane : Polyhedron
plane = record { kind = H; n = 3; rows = []; nonnegative = false; text = [] }

abbrev options : ℕ → Options
options lost = record { workers = 2; bases = 1; depth = 2; lmin = 3; lost = lost }

abbrev start : ℕ → State
start lost = start_of (options lost) (first_run (record { work = Subsets; polyhedron = plane; root = [] }))

-- one key waits, fewer than six: the depth budget is given
abbrev budget : Budget
budget = record { bases = 1; depth = 2 }

first_action : next_action (start 0) ≡ Hand 1 [] budget
first_action = refl

abbrev out : ℕ → State
out lost = stepped (start lost) (hands 1 [] budget true)

waits : next_action (out 0) ≡ Collect
waits = refl

-- a reply that gives two keys back, and one that gives the same key back twice
abbrev giving : List (List ℕ) → Reply
giving keys = record { key = []; rows = []; keys = keys; tail = End (record { rows = 0; jobs = 2; bases = 1 }) }

abbrev two : Reply
two = giving ((1 ∷ []) ∷ (2 ∷ []) ∷ [])

taken : verdict_of (out 0) (Answer 1 two) ≡ Accepted
taken = refl

clash : verdict_of (out 0) (Answer 1 (giving ((1 ∷ []) ∷ (1 ∷ []) ∷ []))) ≡ Loss
clash = refl

abbrev parted : ℕ → State
parted lost = after (out lost) (Answer 1 two)

next : next_action (parted 0) ≡ Hand 2 (1 ∷ []) budget
next = refl

-- the same reply once more is a stray, which counts
again : verdict_of (parted 0) (Answer 1 two) ≡ Stray
again = refl

given_up : next_action (after (parted 0) (Answer 1 two)) ≡ GiveUp 0 1
given_up = refl

goes_on : next_action (after (parted 1) (Answer 1 two)) ≡ Hand 2 (1 ∷ []) budget
goes_on = refl

-- a loss puts the key at the end of the queue, and its next attempt has a number of its own
lost_once : next_action (after (out 1) (Lost 1)) ≡ Hand 2 [] budget
lost_once = refl

lost_in_vain : next_action (after (out 0) (Lost 1)) ≡ GiveUp 1 0
lost_in_vain = refl

-- a start that fails is a loss too
refused : next_action (stepped (start 0) (hands 1 [] budget false)) ≡ GiveUp 1 0
refused = refl

abbrev done : Reply
done = record { key = []; rows = []; keys = []; tail = End (record { rows = 0; jobs = 0; bases = 1 }) }

finished : next_action (after (out 0) (Answer 1 done)) ≡ Finish
finished = refl
