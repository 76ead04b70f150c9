-- What `convert` answers, and what it has then read and written.
use Rattle.std.specs.Prelude.{◌≡◌, ◌⊎◌, ℕ}
use Rattle.std.specs.Io.KnownBytes.{IsAtEnd}
use Rattle.poly_io.specs.Causes.{Rose}
use Rattle.poly_model.specs.declared.overflow.Overflow.{Overflow as Passed}
use Rattle.poly_reader.specs.declared.bad.BadFile.{BadFile as Fault}
use Rattle.disk_core.specs.Contents.{Told}
use Rattle.lrs_cli.specs.declared.status.Status.{Status}
use Rattle.lrs_cli.specs.declared.status.Status.TheVariants.{Done, Infeasible, Overflow, BadFile, ReadFault, WriteFault}
use Rattle.lrs_cli.specs.Answers.{ComesOfFile, Knows, IsListed, IsPartlyListed, IsFeasibleFile, IsInfeasibleFile, HasOverflow, IsBadFile, HasNoObstacle, StopsListing, WritesNothing, Ends}
use Rattle.lrs_cli.specs.Streams.{Streams}

-- The answer of `convert`. `Unwritten` says that the output is as it was.
pub record AnswersConvert (before after : Streams) (Unwritten : Type 0) (answer : Status) : Type 0 where
  -- done: the input was read to its end. Its text describes a polyhedron that has a point, and a listing of it was
  -- written, of so many rows and lines
  pub done : (rows lines : ℕ) → answer ≡ Done rows lines →
      IsAtEnd after.left × Told before.left (IsListed before.written after.written rows lines)
  -- infeasible: the polyhedron has no point
  pub infeasible : answer ≡ Infeasible → Told before.left IsInfeasibleFile
  -- overflow: a product passes, of a pivot that the search cannot do without
  pub overflow : (o : Passed) → answer ≡ Overflow o → Told before.left (HasOverflow o)
  -- an overflow, a write fault: what was written is the beginning of a listing. It is none, or the polyhedron has a
  -- point
  pub stopped : StopsListing answer → Told before.left (IsPartlyListed before.written after.written)
  pub printed : StopsListing answer → Unwritten ⊎ Told before.left IsFeasibleFile
  -- bad file: the text describes no polyhedron, and that is its first fault
  pub bad_file : (f : Fault) → answer ≡ BadFile f → Told before.left (IsBadFile f)
  -- none of the answers that speak of words, of a job or of a ledger
  pub comes : ComesOfFile answer
  -- read fault, write fault: a read, a write failed; with every other answer none has
  pub read_fault : answer ≡ ReadFault → Rose before.read_faults after.read_faults
  pub reads : ¬ (answer ≡ ReadFault) → after.read_faults ≡ before.read_faults
  pub write_fault : answer ≡ WriteFault → Rose before.write_faults after.write_faults
  pub writes : ¬ (answer ≡ WriteFault) → after.write_faults ≡ before.write_faults
  -- nothing was written but for done, an overflow, a write fault
  pub unwritten : WritesNothing answer → Unwritten
  -- of a text that describes a polyhedron without a product that passes, where nothing fails: done, infeasible, or want
  -- of memory
  pub complete : Knows before.left HasNoObstacle → ¬ (Rose before.read_faults after.read_faults) →
      ¬ (Rose before.write_faults after.write_faults) → Ends answer
