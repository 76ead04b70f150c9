-- The main theorem: what `lrs` answers, and what it has then read, written and left.
use Rattle.std.specs.Prelude.{◌≡◌, ◌+◌, ◌^◌, ℕ, List}
use Rattle.command_line.specs.declared.lines.Line.{Line}
use Rattle.command_line.specs.declared.lines.Line.TheVariants as lines
use Rattle.command_line.specs.declared.lines.WorkOptions.{WorkOptions}
use Rattle.command_line.specs.Lines.{IsAccepted, AskFor}
use Rattle.coordinator_core.specs.declared.options.Options.{Options}
use Rattle.disk_core.specs.declared.disk.Disk.{Ghosts as Disk}
use Rattle.example_polys.specs.Examples.{example_of}
use Rattle.job_text.specs.Limits.{most_job_bytes}
use Rattle.poly_io.specs.Taken.{TakesAtMost}
use Rattle.poly_reader.specs.Limits.{most_file_bytes}
use Rattle.workers_io.specs.declared.workers.Workers.{Ghosts as Workers}
use Rattle.lrs_cli.specs.declared.status.Status.{Status}
use Rattle.lrs_cli.specs.declared.status.Status.TheVariants.{Usage, OutOfMemory}
use Rattle.lrs_cli.specs.Convert.{AnswersConvert}
use Rattle.lrs_cli.specs.Demo.{AnswersDemo}
use Rattle.lrs_cli.specs.Job.{AnswersJob}
use Rattle.lrs_cli.specs.Ledgers.{Resources}
use Rattle.lrs_cli.specs.Progress.{AnswersStatus}
use Rattle.lrs_cli.specs.Resume.{AnswersResume}
use Rattle.lrs_cli.specs.Run.{AnswersRun}
use Rattle.lrs_cli.specs.Streams.{Streams}

-- the most bytes that a ledger may have
abbrev pub most_ledger_bytes : ℕ
most_ledger_bytes = 2 ^ 40

-- the options of a line, as the coordinator has them
abbrev pub options_of : WorkOptions → Options
options_of o = record { workers = o.workers; bases = o.bases; depth = o.depth; lmin = o.lmin; lost = o.lost }

-- whatever the devices are: the disk of a ledger, and workers
module _ {D W : Type 0} (disk : Disk D) (workers : Workers W) (old new : Resources D W) (before after : Streams)
    (Unread Unwritten : Type 0) where
  -- The answer to a line. `Unread` says that the input is as it was, and `Unwritten` that the output is. `convert` and `run`
  -- take at most one byte more than a file may have, `job` one more than a job text; the others read nothing. `run` and
  -- `resume` alone start workers, and write to the disk
  abbrev pub AnswersLine : Line → Status → Type 0
  AnswersLine lines.Convert answer = (new ≡ old) × TakesAtMost before.left after.left (most_file_bytes + 1)
      × AnswersConvert before after Unwritten answer
  AnswersLine lines.Job answer = (new ≡ old) × TakesAtMost before.left after.left (most_job_bytes + 1)
      × AnswersJob before after Unwritten answer
  AnswersLine (lines.Demo kind n) answer = (new ≡ old) × Unread
      × AnswersDemo (example_of kind n) before.written after.written before.write_faults after.write_faults Unwritten answer
  AnswersLine (lines.Run ledger options) answer = TakesAtMost before.left after.left (most_file_bytes + 1)
      × AnswersRun disk workers (options_of options) most_ledger_bytes old new before after Unwritten answer
  AnswersLine (lines.Resume ledger options) answer = Unread
      × AnswersResume disk workers (options_of options) most_ledger_bytes old new before.written after.written
      before.write_faults after.write_faults Unwritten answer
  AnswersLine (lines.Status ledger) answer = (new.workers ≡ old.workers) × Unread
      × AnswersStatus disk old.disk new.disk before.written after.written before.write_faults after.write_faults Unwritten
      answer

  -- The answer to some words.
  pub record Answers (words : List (List ℕ)) (answer : Status) : Type 0 where
    -- whatever the words are, at most one byte more than a job may have was taken; no file is longer
    pub taken : TakesAtMost before.left after.left (most_job_bytes + 1)
    -- usage: the words are no accepted line. Then nothing was read, written, left or started. Only want of memory hides it
    pub usage : answer ≡ Usage → ¬ (IsAccepted words)
    pub accepted : ¬ (answer ≡ Usage) → ¬ (answer ≡ OutOfMemory) → IsAccepted words
    pub unasked : ¬ (IsAccepted words) → (new ≡ old) × Unread × Unwritten
    -- the words ask for a line: it is answered
    pub line : (line : Line) → AskFor words line → AnswersLine line answer
