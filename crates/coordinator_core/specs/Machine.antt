-- The coordinator machine: its state, the action that comes next, and what each event makes of it.
use Rattle.std.specs.Prelude.{◌≡◌, ◌<◌, ◌≤◌, ◌+◌, ◌-◌, ◌*◌, ◌++◌, ◌∷◌, ◌&&◌, ℕ, List, [], length, Bool, true, false, not, if◌then◌else◌, nat_lt, Option, Some, None, slice_get, slice_set, drop}
use Rattle.row_printer.specs.Rows.{counted}
use Rattle.work_core.specs.declared.budget.Budget.{Budget}
use Rattle.work_core.specs.Splits.{most_bases, most_depth}
use Rattle.job_text.specs.declared.reply.Reply.{Reply}
use Rattle.job_text.specs.declared.reply.Tail.{Tail}
use Rattle.job_text.specs.declared.reply.Tail.TheVariants.{End, Overflow, Memory}
use Rattle.run_state.specs.KeyLists.{KnownKeys, is_same_key, holds, are_new}
use Rattle.run_state.specs.Runs.{Run, run_after}
use Rattle.coordinator_core.specs.declared.options.Options.{Options}
use Rattle.coordinator_core.specs.declared.action.Action.{Action}
use Rattle.coordinator_core.specs.declared.action.Action.TheVariants.{Hand, Collect, Finish, GiveUp}
use Rattle.coordinator_core.specs.declared.event.Event.{Event}
use Rattle.coordinator_core.specs.declared.event.Event.TheVariants.{Answer, Lost}
use Rattle.coordinator_core.specs.declared.verdict.Verdict.{Verdict}
use Rattle.coordinator_core.specs.declared.verdict.Verdict.TheVariants.{Accepted, Stray, Loss, Ends}

-- the ranges of the options
pub record AreOptions (o : Options) : Type 0 where
  pub workers : (0 < o.workers) × (o.workers ≤ 256)
  pub bases : (0 < o.bases) × (o.bases ≤ most_bases)
  pub depth : (0 < o.depth) × (o.depth ≤ most_depth)
  pub lmin : (0 < o.lmin) × (o.lmin ≤ 1000)
  pub lost : o.lost ≤ 1000000

-- a job that was handed out, and whether it still is
pub record Attempt : Type 0 where
  pub key : List ℕ
  pub budget : Budget
  pub is_out : Bool

pub record State : Type 0 where
  pub options : Options
  pub run : Run
  -- the waiting keys for which no attempt is out, in the order in which they came to it
  pub queue : List (List ℕ)
  -- the attempts, numbered from 1 in the order in which they were handed out
  pub sent : List Attempt
  pub losses : ℕ
  pub strays : ℕ

-- where a call begins: nothing is out
abbrev pub start_of : Options → Run → State
start_of options run = record {
  options = options;
  run = run;
  queue = run.keys.waiting;
  sent = [];
  losses = 0;
  strays = 0;
}

-- the attempt of this number
abbrev pub sent_at : State → ℕ → Option Attempt
sent_at s attempt = if nat_lt 0 attempt then slice_get s.sent (attempt - 1) else None

-- the keys of the attempts that are out
abbrev pub keys_out : List Attempt → List (List ℕ)
keys_out [] = []
keys_out (a ∷ sent) = if a.is_out then a.key ∷ keys_out sent else keys_out sent

-- the key and the budget of an attempt
abbrev pub job_of : Option Attempt → Option (List ℕ × Budget)
job_of None = None
job_of (Some a) = Some (a.key, a.budget)

-- the attempt of this number is out
pub record IsOut (s : State) (attempt : ℕ) : Type 0 where
  pub which : Attempt
  pub is_sent : sent_at s attempt ≡ Some which
  pub is_out : which.is_out ≡ true

-- ---- the next action

-- the depth budget is given while the queue is short
abbrev pub budget_of : State → Budget
budget_of s = record {
  bases = s.options.bases;
  depth = if nat_lt (length s.queue) (s.options.lmin * s.options.workers) then s.options.depth else 0;
}

abbrev pub wait_or_finish : State → Action
wait_or_finish s = if nat_lt 0 (length (keys_out s.sent)) then Collect else Finish

abbrev pub hand_or_wait : State → List (List ℕ) → Action
hand_or_wait s [] = wait_or_finish s
hand_or_wait s (key ∷ queue) =
    if nat_lt (length (keys_out s.sent)) s.options.workers
    then Hand (length s.sent + 1) key (budget_of s)
    else wait_or_finish s

-- the first that applies: give up, hand out the first key of the queue, collect an attempt that is out, finish
abbrev pub next_action : State → Action
next_action s =
    if nat_lt s.options.lost (s.losses + s.strays) then GiveUp s.losses s.strays else hand_or_wait s s.queue

-- the first key of the queue is out
abbrev pub handed : State → List ℕ → Budget → State
handed s key budget = record s {
  queue = drop 1 s.queue;
  sent = s.sent ++ record { key = key; budget = budget; is_out = true } ∷ [];
}

-- what taking an action does at once
abbrev pub acted : State → Action → State
acted s (Hand attempt key budget) = handed s key budget
acted s Collect = s
acted s Finish = s
acted s (GiveUp lost strays) = s

-- ---- what an event is judged as

-- a reply that is due, by how it ends; one that gives a known key back, or a key twice, is a clash, and so a loss
abbrev pub by_tail : KnownKeys → Reply → Tail → Verdict
by_tail keys r (Overflow o) = Ends o
by_tail keys r Memory = Loss
by_tail keys r (End count) = if are_new (keys.waiting ++ keys.done) r.keys then Accepted else Loss

-- a reply of the attempt's job is a stray where the attempt is not out or the job is done
abbrev pub verdict_for : Run → Reply → Attempt → Verdict
verdict_for run r a =
    if is_same_key r.key a.key
    then (if a.is_out && not (holds run.keys.done r.key) then by_tail run.keys r r.tail else Stray)
    else Loss

abbrev pub verdict_at : Run → Reply → Option Attempt → Verdict
verdict_at run r None = Loss
verdict_at run r (Some a) = verdict_for run r a

-- what becomes of a whole reply that came for an attempt
abbrev pub judged : State → ℕ → Reply → Verdict
judged s attempt r = verdict_at s.run r (sent_at s attempt)

-- what becomes of an event: where no whole reply came it is a loss
abbrev pub verdict_of : State → Event → Verdict
verdict_of s (Answer attempt r) = judged s attempt r
verdict_of s (Lost attempt) = Loss

-- ---- what an event changes

-- the attempt is out no more
abbrev pub back : Attempt → Attempt
back a = record { key = a.key; budget = a.budget; is_out = false }

abbrev pub attempts_ended : List Attempt → ℕ → Attempt → List Attempt
attempts_ended sent attempt a = slice_set sent (attempt - 1) (back a)

-- a loss is counted, and of an attempt that is out the key goes to the end of the queue
abbrev pub lost_at : State → ℕ → Option Attempt → State
lost_at s attempt None = record s { losses = counted s.losses 1 }
lost_at s attempt (Some a) =
    if a.is_out
    then record s { losses = counted s.losses 1; queue = s.queue ++ a.key ∷ []; sent = attempts_ended s.sent attempt a }
    else record s { losses = counted s.losses 1 }

abbrev pub after_loss : State → ℕ → State
after_loss s attempt = lost_at s attempt (sent_at s attempt)

-- an accepted reply is recorded, its keys go to the end of the queue, and the attempt is out no more
abbrev pub recorded_at : State → ℕ → Reply → Option Attempt → State
recorded_at s attempt r None = s
recorded_at s attempt r (Some a) =
    record s { run = run_after s.run r; queue = s.queue ++ r.keys; sent = attempts_ended s.sent attempt a }

-- a stray changes its own count alone
abbrev pub by_verdict : State → Event → Verdict → State
by_verdict s (Answer attempt r) Accepted = recorded_at s attempt r (sent_at s attempt)
by_verdict s (Answer attempt r) Stray = record s { strays = counted s.strays 1 }
by_verdict s (Answer attempt r) Loss = after_loss s attempt
by_verdict s (Answer attempt r) (Ends o) = s
by_verdict s (Lost attempt) verdict = after_loss s attempt

-- the state after an event
abbrev pub after : State → Event → State
after s e = by_verdict s e (verdict_of s e)

abbrev pub attempt_of : Event → ℕ
attempt_of (Answer attempt r) = attempt
attempt_of (Lost attempt) = attempt
