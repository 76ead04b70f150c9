-- How a core keeps its keys: by their places among those that came.
use Rattle.std.specs.Prelude.{◌≡◌, ◌≢◌, ◌<◌, ◌≤◌, ◌+◌, ◌-◌, ◌++◌, ℕ, List, length, map, Option, None, slice_get, Some, nat_lt, if◌then◌else◌, true, false}
use Rattle.std.specs.List.{Contains}
use Rattle.search_laws.specs.Shares.{ListsAll}
use Rattle.job_text.specs.declared.reply.Reply.{Reply}
use Rattle.run_state.specs.KeyLists.{StandApart, holds, key_at}
use Rattle.run_state.specs.Payloads.{SaysEnd}
use Rattle.run_state.specs.Runs.{Run}
use Rattle.coordinator_core.specs.declared.options.Options.{Options}
use Rattle.coordinator_core.specs.declared.sent.Sent.{Sent}
use Rattle.coordinator_core.specs.declared.verdict.Verdict.{Verdict}
use Rattle.coordinator_core.specs.declared.verdict.Verdict.TheVariants.{Accepted}
use Rattle.coordinator_core.specs.Machine.{AreOptions, Attempt, State, keys_out, sent_at, verdict_at}

abbrev pub attempt_at : List (List ℕ) → Sent → Attempt
attempt_at came s = record { key = key_at came s.place; budget = s.budget; is_out = s.is_out }

abbrev pub attempts_at : List (List ℕ) → List Sent → List Attempt
attempts_at came sent = map (attempt_at came) sent

abbrev pub keys_at : List (List ℕ) → List ℕ → List (List ℕ)
keys_at came places = map (key_at came) places

-- what a core is seen as
abbrev pub state_of : Options → Run → List ℕ → List Sent → ℕ → ℕ → State
state_of options run queue sent losses strays = record {
  options = options;
  run = run;
  queue = keys_at run.came queue;
  sent = attempts_at run.came sent;
  losses = losses;
  strays = strays;
}

-- the keys that wait are those of the queue and those that are out, each once
pub record IsSound (run : Run) (queue : List (List ℕ)) (sent : List Attempt) : Type 0 where
  pub known : StandApart run.keys
  pub placed : ListsAll (λ k. Contains run.keys.waiting k) (queue ++ keys_out sent)

-- the places are those of keys that came, the attempts that are out are counted, and there is room for those that may
-- come next
pub record IsKept (options : Options) (run : Run) (queue : List ℕ) (sent : List Sent) (out capacity : ℕ) : Type 0 where
  pub in_range : AreOptions options
  pub sound : IsSound run (keys_at run.came queue) (attempts_at run.came sent)
  pub queued : (i : ℕ) → Contains queue i → i < length run.came
  pub handed : (s : Sent) → Contains sent s → s.place < length run.came
  pub count : out ≡ length (keys_out (attempts_at run.came sent))
  pub few : out ≤ options.workers
  pub room : length sent + (options.workers - out) ≤ capacity

-- the attempt of a number, from 1
abbrev pub sent_numbered : List Sent → ℕ → Option Sent
sent_numbered sent attempt = if nat_lt 0 attempt then slice_get sent (attempt - 1) else None

-- the attempt, out no more
abbrev pub gone : Sent → Sent
gone s = record { place = s.place; budget = s.budget; is_out = false }

-- ---- what is seen of a reply without the keys that it gives back

-- it is of the job of this attempt, which is out and not done, and it ends in `end`
pub record IsDueReply (run : Run) (r : Reply) (a : Attempt) : Type 0 where
  pub key : r.key ≡ a.key
  pub is_out : a.is_out ≡ true
  pub not_done : holds run.keys.done r.key ≡ false
  pub ends : SaysEnd r.tail

-- of the attempt of this number
pub record IsDueAt (s : State) (attempt : ℕ) (r : Reply) : Type 0 where
  pub which : Attempt
  pub is_sent : sent_at s attempt ≡ Some which
  pub due : IsDueReply s.run r which

-- what becomes of it is this, whatever those keys are
pub record IsSettledReply (run : Run) (r : Reply) (a : Option Attempt) (verdict : Verdict) : Type 0 where
  pub is : verdict ≡ verdict_at run r a
  pub refused : verdict ≢ Accepted
