-- What `job` answers, and what it has then read and written.
use Rattle.std.specs.Prelude.{◌≡◌, ◌⊎◌, ℕ, ◌+◌, List, Option, take}
use Rattle.std.specs.Io.KnownBytes.{IsAtEnd}
use Rattle.poly_io.specs.Causes.{Rose}
use Rattle.poly_model.specs.declared.listed.Count.{Count}
use Rattle.job_text.specs.declared.reply.Tail.TheVariants.{End, Overflow as Overflowed, Memory}
use Rattle.job_text.specs.Limits.{most_job_bytes}
use Rattle.worker_job.specs.Runs.{IsBadJob, Replies, RepliesInPart}
use Rattle.disk_core.specs.Contents.{Told}
use Rattle.lrs_cli.specs.declared.status.Status.{Status}
use Rattle.lrs_cli.specs.declared.status.Status.TheVariants.{Done, BadJob, Overflow, ReadFault, WriteFault, OutOfMemory}
use Rattle.lrs_cli.specs.Streams.{Streams}

-- a fact about the front of the bytes, where they are told: about all of them, or one byte more than a job text may have
abbrev pub OfFront : Option (List ℕ) → (List ℕ → Type 0) → Type 0
OfFront left P = Told left (λ text. P (take (most_job_bytes + 1) text))

-- the text is a job, and a whole reply of it was written, which ends in `end` with so many rows
abbrev pub IsReplied : Option (List ℕ) → Option (List ℕ) → ℕ → List ℕ → Type 0
IsReplied old new rows text = (count : Count) × (count.rows ≡ rows) × Replies old new (End count) text

-- What a call answers that was read as a job. `Unwritten` says that the output is as it was.
abbrev pub ComesOfJob : Streams → Streams → Type 0 → Status → Type 0
-- the input was read to its end, and a whole reply was written; a reply has no lines of a listing
ComesOfJob before after Unwritten (Done rows lines) =
    (lines ≡ 0) × IsAtEnd after.left × OfFront before.left (IsReplied before.written after.written rows)
-- the text is no job, or its root or its key is none of its work; this line of it is the first that is wrong
ComesOfJob before after Unwritten (BadJob place) = Unwritten × OfFront before.left (λ text. IsBadJob text place)
-- a product passes, by subtrees of a pivot that the job cannot do without, by subsets of any in the cone; a whole reply that
-- says so was written
ComesOfJob before after Unwritten (Overflow o) =
    OfFront before.left (Replies before.written after.written (Overflowed o))
-- nothing was written, or a whole reply that says so
ComesOfJob before after Unwritten OutOfMemory =
    Unwritten ⊎ OfFront before.left (Replies before.written after.written Memory)
ComesOfJob before after Unwritten ReadFault = Unwritten × Rose before.read_faults after.read_faults
-- the beginning of a reply was written
ComesOfJob before after Unwritten WriteFault =
    Rose before.write_faults after.write_faults × OfFront before.left (RepliesInPart before.written after.written)
-- these are no answers of `job`
ComesOfJob before after Unwritten _ = ⊥

-- The answer of `job`.
pub record AnswersJob (before after : Streams) (Unwritten : Type 0) (answer : Status) : Type 0 where
  pub comes : ComesOfJob before after Unwritten answer
  -- with every answer but a read fault no read has failed, and with every one but a write fault no write
  pub reads : ¬ (answer ≡ ReadFault) → after.read_faults ≡ before.read_faults
  pub writes : ¬ (answer ≡ WriteFault) → after.write_faults ≡ before.write_faults
