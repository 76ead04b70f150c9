-- The answer of `run` to a file, from that to its polyhedron.
use Rattle.std.proofs.Common.{arith, ℕ, List, ◌≡◌, ◌≤◌, ◌⊎◌, inl, inr, refl, sym, subst, Option}
use Rattle.std.specs.Io.KnownBytes.{IsAtEnd}
use Rattle.poly_io.specs.Causes.{Rose}
use Rattle.poly_model.specs.Extreme.{IsFeasible}
use Rattle.poly_model.specs.Systems.{Polyhedron, cone_of}
use Rattle.poly_reader.specs.Reading.{IsFileOf}
use Rattle.work_core.specs.Searches.{Search}
use Rattle.disk_core.specs.declared.disk.Disk.{Ghosts as Disk}
use Rattle.workers_io.specs.declared.workers.Workers.{Ghosts as Workers}
use Rattle.coordinator_core.specs.declared.options.Options.{Options}
use Rattle.disk_core.specs.Contents.{Told}
use Rattle.lrs_cli.specs.declared.status.Status.{Status}
use Rattle.lrs_cli.specs.declared.status.Status.TheVariants.{Done, Usage, BadFile, BadJob, Infeasible, Overflow, ReadFault, WriteFault, DiskFault, Lost, NoRun, HasRun, BadLedger, LedgerLimit, OutOfMemory}
use Rattle.lrs_cli.specs.Ledgers.{DiskRose, Resources, RoseAt, resources}
use Rattle.lrs_cli.specs.Run.{EndsSearch, IsDueBeforeSearch, MaySearch, RefusesFile, RefusesPolyhedron, RunsFile, RunsSearch}
use Rattle.lrs_cli.specs.Streams.{Streams}
use Rattle.lrs_cli.proofs.FaultLemmas.{described}

-- ---- counts of faults
pub rose_at : (fault answer : Status) (before now : ℕ) → before ≤ now → (answer ≡ fault → Rose before now) → (¬ (answer ≡ fault) → now ≡ before) → RoseAt fault answer before now
rose_at fault answer before now later failed same = record { later = later; failed = failed; same = same }

pub disk_rose : (answer : Status) (before now : ℕ) → RoseAt DiskFault answer before now → DiskRose answer before now
disk_rose answer before now r = record { later = r.later; failed = r.failed; same = λ n m. r.same n }

pub none_rose : (fault answer : Status) (count : ℕ) → (answer ≡ fault → ⊥) → RoseAt fault answer count count
none_rose fault answer count n = record { later = omega arith; failed = λ e. absurd (n e); same = λ m. refl }

pub no_disk_rose : (answer : Status) (count : ℕ) → (answer ≡ DiskFault → ⊥) → DiskRose answer count count
no_disk_rose answer count n = record { later = omega arith; failed = λ e. absurd (n e); same = λ m o. refl }

-- ---- a polyhedron of a file
refused_file : (left : Option (List ℕ)) (p : Polyhedron) → Told left (λ text. IsFileOf text p) → (answer : Status) → RefusesPolyhedron p answer → RefusesFile left answer
refused_file left p text (Done rows lines) r = absurd r
refused_file left p text Usage r = absurd r
refused_file left p text (BadFile f) r = absurd r
refused_file left p text (BadJob place) r = absurd r
refused_file left p text Infeasible r = described (λ p. IsFeasible (cone_of p) → ⊥) p left text r
refused_file left p text (Overflow o) r = described (λ p. IsDueBeforeSearch p o) p left text r
refused_file left p text ReadFault r = absurd r
refused_file left p text WriteFault r = absurd r
refused_file left p text DiskFault r = absurd r
refused_file left p text (Lost lost strays) r = absurd r
refused_file left p text NoRun r = absurd r
refused_file left p text HasRun r = absurd r
refused_file left p text (BadLedger place) r = absurd r
refused_file left p text (LedgerLimit need limit) r = absurd r
refused_file left p text OutOfMemory r = tt

same_resources : {D W : Type 0} (d d' : D) (w w' : W) → d' ≡ d → w' ≡ w → resources d' w' ≡ resources d w
same_resources d d' w w' e f = cc

module _ {D W : Type 0} (disk : Disk D) (workers : Workers W) (options : Options) (limit : ℕ) (p : Polyhedron) (d d' : D) (w w' : W) (before after : Streams) (U : Type 0)
    (answer : Status) where
  abbrev old : Resources D W
  old = resources d w

  abbrev new : Resources D W
  new = resources d' w'

  -- what becomes of the polyhedron
  abbrev Runs : Type 0
  Runs = (RefusesPolyhedron p answer × (d' ≡ d) × (w' ≡ w) × U)
      ⊎ ((s : Search) × MaySearch s × (s.polyhedron ≡ p) × RunsSearch disk workers options limit s old new before.written after.written U answer)

  never_read : Runs → answer ≡ ReadFault → ⊥
  never_read (inl r) e = subst (RefusesPolyhedron p) e r.0
  never_read (inr r) e = subst (EndsSearch disk workers options limit r.0 old new before.written after.written U) e r.3.ends

  pub runs_file : Runs → Told before.left (λ text. IsFileOf text p) → IsAtEnd after.left → before.read_faults ≤ after.read_faults → after.read_faults ≡ before.read_faults →
      RoseAt WriteFault answer before.write_faults after.write_faults → DiskRose answer (disk.faults d) (disk.faults d') →
      RunsFile disk workers options limit old new before after U answer
  runs_file runs text ends later same writes calls = record {
    comes = elim runs [
      | inl r ↦ inl (refused_file before.left p text answer r.0, same_resources d d' w w' r.1 r.2, r.3)
      | inr r ↦ inr (r.0, r.1, subst (λ (q : Polyhedron). Told before.left (λ text. IsFileOf text q)) (sym r.2) text, ends, r.3)
    ];
    reads = record { later = later; failed = λ e. absurd (never_read runs e); same = λ n. same };
    writes = writes;
    disk_calls = calls;
  }
