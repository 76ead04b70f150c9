-- The answer to words: that to the line that they ask for, or why there is none.
use Rattle.std.proofs.Common.{◌≡◌, ◌+◌, inl, inr, ℕ, List, [], Option, refl, arith}
use Rattle.std.proofs.KnownBytes.{Consumes-nil}
use Rattle.command_line.specs.declared.lines.Line.{Line}
use Rattle.command_line.specs.declared.lines.Line.TheVariants as lines
use Rattle.command_line.specs.Laws.{IsSameLine}
use Rattle.command_line.specs.Lines.{IsAccepted, AskFor}
use Rattle.command_line.proofs.OneLines.{one_line}
use Rattle.command_line.proofs.SameLines.{of_same}
use Rattle.coordinator_core.specs.declared.options.Options.{Options}
use Rattle.disk_core.specs.declared.disk.Disk.{Ghosts as Disk}
use Rattle.disk_core.specs.Moments.{LeavesOnly}
use Rattle.disk_core.proofs.Moments.{started, weaker}
use Rattle.example_polys.specs.Examples.{example_of}
use Rattle.job_text.specs.Limits.{most_job_bytes}
use Rattle.poly_io.specs.Taken.{TakesAtMost}
use Rattle.poly_reader.specs.Limits.{most_file_bytes}
use Rattle.workers_io.specs.declared.workers.Workers.{Ghosts as Workers}
use Rattle.lrs_cli.specs.declared.status.Status.{Status}
use Rattle.lrs_cli.specs.declared.status.Status.TheVariants.{Usage, OutOfMemory}
use Rattle.lrs_cli.specs.Convert.{AnswersConvert}
use Rattle.lrs_cli.specs.Ledgers.{DiskRose, Resources}
use Rattle.lrs_cli.specs.Lrs.{Answers, AnswersLine, most_ledger_bytes, options_of}
use Rattle.lrs_cli.specs.Progress.{AnswersStatus}
use Rattle.lrs_cli.specs.Resume.{AnswersResume}
use Rattle.lrs_cli.specs.Run.{AnswersRun}
use Rattle.lrs_cli.specs.Streams.{Streams}
use Rattle.lrs_cli.proofs.DemoLemmas.{answers_memory}
use Rattle.lrs_cli.proofs.FileLemmas.{no_disk_rose, none_rose}

-- nothing was taken
pub none_taken : (left : Option (List ℕ)) (most : ℕ) → TakesAtMost left left most
none_taken left most = record { taken = []; count = omega arith; bytes = Consumes-nil left }

-- no file is longer than a job may be
pub taken_of_file : (old new : Option (List ℕ)) → TakesAtMost old new (most_file_bytes + 1) → TakesAtMost old new (most_job_bytes + 1)
taken_of_file old new t = record { taken = t.taken; count = omega (arith, t.count); bytes = t.bytes }

module _ {D W : Type 0} (disk : Disk D) (workers : Workers W) (only_now : (d : D) (c : List ℕ) → disk.since d (disk.moment d) c → disk.images d c)
    (here : Resources D W) (before : Streams) (Unread Unwritten : Type 0) (unread : Unread) (unwritten : Unwritten) where
  -- want of memory before anything was read, written, left or started
  convert_memory : AnswersConvert before before Unwritten OutOfMemory
  convert_memory = record {
    done = λ rows lines e. absurd (cc);
    infeasible = λ e. absurd (cc);
    overflow = λ o e. absurd (cc);
    stopped = λ s. absurd s;
    printed = λ s. absurd s;
    bad_file = λ f e. absurd (cc);
    comes = tt;
    read_fault = λ e. absurd (cc);
    reads = λ n. refl;
    write_fault = λ e. absurd (cc);
    writes = λ n. refl;
    unwritten = λ w. unwritten;
    complete = λ known n m. tt;
  }

  still : LeavesOnly disk.moment disk.since here.disk here.disk (disk.images here.disk)
  still = started disk.moment disk.since here.disk (disk.images here.disk) (only_now here.disk)

  no_fault : DiskRose OutOfMemory (disk.faults here.disk) (disk.faults here.disk)
  no_fault = no_disk_rose OutOfMemory (disk.faults here.disk) (λ e. cc)

  run_memory : (options : Options) → AnswersRun disk workers options most_ledger_bytes here here before before Unwritten OutOfMemory
  run_memory options = record {
    lists = λ rows lines e. absurd (cc);
    leaves = λ t f told text given. inl still;
    part = λ t. inl unwritten;
    overflow = λ o e. absurd (cc);
    texts = λ f told. weaker disk.moment disk.since here.disk here.disk _ _ still (λ c i. inl i);
    complete = λ known fresh answered n m k. inr tt;
    runs = record {
      comes = inl (tt, refl, unwritten);
      reads = none_rose _ OutOfMemory before.read_faults (λ e. cc);
      writes = none_rose _ OutOfMemory before.write_faults (λ e. cc);
      disk_calls = no_fault;
    };
  }

  resume_memory : (options : Options) →
      AnswersResume disk workers options most_ledger_bytes here here before.written before.written before.write_faults before.write_faults Unwritten OutOfMemory
  resume_memory options = record {
    lists = λ records some images t rows lines e. absurd (cc);
    leaves = λ records some images t f told. weaker disk.moment disk.since here.disk here.disk _ _ still (λ c i. inl i);
    part = λ records some images t. inl unwritten;
    overflow = λ records some images t o e. absurd (cc);
    texts = λ f told. weaker disk.moment disk.since here.disk here.disk _ _ still (λ c i. inl i);
    complete = λ records images opened whole answered n m. tt;
    comes = record { goes = inl (refl, still); prints = inl unwritten; ends = tt; idle = λ f told r none. refl; honest = λ h. h };
    writes = none_rose _ OutOfMemory before.write_faults (λ e. cc);
    disk_calls = no_fault;
  }

  status_memory : AnswersStatus disk here.disk here.disk before.written before.written before.write_faults before.write_faults Unwritten OutOfMemory
  status_memory = record {
    tells = unwritten;
    leaves = still;
    writes = none_rose _ OutOfMemory before.write_faults (λ e. cc);
    disk_calls = none_rose _ OutOfMemory (disk.faults here.disk) (λ e. cc);
  }

  abbrev Answer : Line → Type 0
  Answer line = AnswersLine disk workers here here before before Unread Unwritten line OutOfMemory

  line_memory : (line : Line) → Answer line
  line_memory lines.Convert = (refl, none_taken before.left (most_file_bytes + 1), convert_memory)
  line_memory lines.Job = (
    refl,
    none_taken before.left (most_job_bytes + 1),
    record { comes = inl unwritten; reads = λ n. refl; writes = λ n. refl },
  )
  line_memory (lines.Demo kind n) = (
    refl,
    unread,
    answers_memory (example_of kind n) before.written before.written before.write_faults before.write_faults Unwritten
        unwritten refl,
  )
  line_memory (lines.Run ledger options) = (none_taken before.left (most_file_bytes + 1), run_memory (options_of options))
  line_memory (lines.Resume ledger options) = (unread, resume_memory (options_of options))
  line_memory (lines.Status ledger) = (refl, unread, status_memory)

  pub words_memory : (words : List (List ℕ)) → Answers disk workers here here before before Unread Unwritten words OutOfMemory
  words_memory words = record {
    taken = none_taken before.left (most_job_bytes + 1);
    usage = λ e. absurd (cc);
    accepted = λ u m. absurd (m refl);
    unasked = λ n. (refl, unread, unwritten);
    line = λ line asked. line_memory line;
  }

  pub words_usage : (words : List (List ℕ)) → ¬ (IsAccepted words) → Answers disk workers here here before before Unread Unwritten words Usage
  words_usage words none = record {
    taken = none_taken before.left (most_job_bytes + 1);
    usage = λ e. none;
    accepted = λ u m. absurd (u refl);
    unasked = λ n. (refl, unread, unwritten);
    line = λ line asked. absurd (none (line, asked));
  }

-- the line that the words ask for was answered
module _ {D W : Type 0} (disk : Disk D) (workers : Workers W) (old new : Resources D W) (before after : Streams) (Unread Unwritten : Type 0) (answer : Status) where
  abbrev AnswersTo : Line → Type 0
  AnswersTo line = AnswersLine disk workers old new before after Unread Unwritten line answer

  -- an answer to a line is one to each that is the same
  same_answer : (one other : Line) → IsSameLine one other → AnswersTo one → AnswersTo other
  same_answer one other same h = of_same (λ (a b : Line). AnswersTo a → AnswersTo b) (record {
    alike = λ line x. x;
    run = λ ledger name options e x. x;
    resume = λ ledger name options e x. x;
    status = λ ledger name e x. x;
  }) one other same h

  pub words_line : (words : List (List ℕ)) (line : Line) → AskFor words line → (answer ≡ Usage → ⊥) → TakesAtMost before.left after.left (most_job_bytes + 1) →
      AnswersTo line → Answers disk workers old new before after Unread Unwritten words answer
  words_line words line asked never taken answers = record {
    taken = taken;
    usage = λ e. absurd (never e);
    accepted = λ u m. (line, asked);
    unasked = λ n. absurd (n (line, asked));
    line = λ other also. same_answer line other (one_line words line other asked also) answers;
  }
