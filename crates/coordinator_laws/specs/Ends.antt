-- Each call comes to an end, and where it finishes no key waits.
use Rattle.std.specs.Prelude.{◌≡◌, ◌≤◌, ◌+◌, ◌-◌, ◌*◌, ℕ, List, [], length, sum_by}
use Rattle.run_state.specs.Payloads.{IsLedgerText}
use Rattle.workers_io.specs.History.{Happening}
use Rattle.coordinator_core.specs.declared.action.Action.TheVariants.{Finish}
use Rattle.coordinator_core.specs.Machine.{AreOptions, State, next_action}
use Rattle.coordinator_core.specs.Traces.{Step, MayStep, stepped}
use Rattle.coordinator_laws.specs.Courses.{Course, IsCourse, IsToldAs, payloads_added, start_in, text_in}

-- what is left to do in a state: losses and strays that may still come, twice, and the keys of the queue
abbrev pub left_to_do : State → ℕ
left_to_do s = 2 * (s.options.lost + 1 - (s.losses + s.strays)) + length s.queue

-- how many bytes they have
abbrev pub bytes_in : List (List ℕ) → ℕ
bytes_in payloads = sum_by length payloads

-- each step lowers what is left to do, or adds more bytes to the records than it adds to that
abbrev pub StepsLower : Type 0
StepsLower =
    (s : State) (step : Step) (h : Happening) → AreOptions s.options → MayStep s step → IsToldAs s step h →
    1 + left_to_do (stepped s step) ≤ left_to_do s + bytes_in (text_in s step h)

-- so a call has no more steps than were left to do where it began, and bytes came to the records
abbrev pub CoursesEnd : Type 0
CoursesEnd =
    (c : Course) → AreOptions c.options → IsCourse c →
    length c.steps + left_to_do c.last ≤ left_to_do (start_in c) + bytes_in (payloads_added c)

abbrev pub NoneWaitsAtFinish : Type 0
NoneWaitsAtFinish =
    (c : Course) (payloads : List (List ℕ)) → AreOptions c.options → IsCourse c →
    IsLedgerText c.search c.replies payloads → next_action c.last ≡ Finish → c.last.run.keys.waiting ≡ []
