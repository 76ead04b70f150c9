-- How a process of the program ends.
use Rattle.std.specs.Prelude.{◌≡◌, ◌⊎◌, ℕ, List, Option, Result, Ok, Err}
use Rattle.std.specs.Io.KnownBytes.{Appends}
use Rattle.command_line.specs.declared.lines.LineStop.{LineStop}
use Rattle.command_line.specs.declared.lines.LineStop.TheVariants as stops
use Rattle.disk_core.specs.declared.disk.Disk.{Ghosts as Disk}
use Rattle.poly_io.specs.Causes.{Rose}
use Rattle.poly_io.specs.Written.{AppendsPart}
use Rattle.workers_io.specs.declared.workers.Workers.{Ghosts as Workers}
use Rattle.lrs_cli.specs.declared.status.Status.{Status}
use Rattle.lrs_cli.specs.declared.status.Status.TheVariants.{Usage, OutOfMemory}
use Rattle.lrs_cli.specs.Ledgers.{Resources}
use Rattle.lrs_cli.specs.Streams.{Streams}
use Rattle.lrs_cli.specs.Lrs.{Answers}
use Rattle.lrs_cli.specs.StatusLine.{status_text, status_number}

-- the status line went out, or its first bytes, and then a write of it failed
abbrev pub IsSaid : Option (List ℕ) → Option (List ℕ) → ℕ → ℕ → Status → Type 0
IsSaid old new before after status =
    Appends old new (status_text status) ⊎ (AppendsPart old new (status_text status) × Rose before after)

module _ {D W : Type 0} (disk : Disk D) (workers : Workers W) (old new : Resources D W) (before after : Streams)
    (Unread Unwritten : Type 0) where
  -- the answer to the arguments of the process: that to the words, or why there are none
  abbrev pub AnswersArguments : Result (List (List ℕ)) LineStop → Status → Type 0
  AnswersArguments (Ok words) answer = Answers disk workers old new before after Unread Unwritten words answer
  AnswersArguments (Err stops.Usage) answer = (answer ≡ Usage) × (new ≡ old) × Unread × Unwritten
  AnswersArguments (Err stops.Memory) answer = (answer ≡ OutOfMemory) × (new ≡ old) × Unread × Unwritten

  -- the process answers its arguments, says so, and ends with the answer's number
  pub record Ending (Said : Status → Type 0) (arguments : Result (List (List ℕ)) LineStop) (number : ℕ) : Type 0 where
    pub answer : Status
    pub answers : AnswersArguments arguments answer
    pub said : Said answer
    pub number_is : number ≡ status_number answer
