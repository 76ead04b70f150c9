-- `resume` through a buffer: what holds of the buffered sink, and of its end, holds of the sink below it.
use Rattle.std.proofs.Common.{ℕ, List, ◌≡◌, inl, inr, Option, Result, Ok, Err, OnOk, OnErr, IsOk}
use Rattle.std.specs.Io.KnownBytes.{Keeps}
use Rattle.poly_io.specs.Written.{AppendsPart}
use Rattle.disk_core.specs.declared.disk.Disk.{Ghosts as Disk}
use Rattle.workers_io.specs.declared.workers.Workers.{Ghosts as Workers}
use Rattle.coordinator_core.specs.declared.options.Options.{Options}
use Rattle.lrs_cli.specs.declared.status.Status.{Status}
use Rattle.lrs_cli.specs.declared.status.Status.TheVariants.{WriteFault}
use Rattle.lrs_cli.specs.Ledgers.{Resources}
use Rattle.lrs_cli.specs.Resume.{EndsRecorded, GoesOn}
use Rattle.lrs_cli.proofs.CarriedEnds.{carried}
use Rattle.lrs_cli.proofs.RunThrough.{kept_part, kept_whole}
use Rattle.lrs_cli.proofs.ThroughLemmas.{not_ok}

module _ {D W : Type 0} (disk : Disk D) (workers : Workers W) (options : Options) (limit : ℕ) (first last : Resources D W) (old told new : Option (List ℕ)) (U V : Type 0)
    (part : (text : List ℕ) → AppendsPart old told text → AppendsPart old new text) where
  abbrev Ends : Status → Type 0
  Ends answer = EndsRecorded disk workers options limit first last old told U answer

  abbrev EndsBelow : Status → Type 0
  EndsBelow answer = EndsRecorded disk workers options limit first last old new V answer

  ends_ok : Keeps told new → (U → V) → (answer : Status) → Ends answer → EndsBelow answer
  ends_ok keeps f answer e = carried _ _ (record {
    done = λ rows lines e. (e.0, e.1, e.2, e.3, λ file t. kept_whole e.0.search _ old told new keeps rows lines (e.4 file t));
    lost = λ lost strays e. (f e.0, e.1, e.2, e.3, e.4);
    overflow = λ o e. (f e.0, e.1, e.2);
    infeasible = λ e. (f e.0, e.1, e.2, e.3, e.4);
    no_run = λ e. (f e.0, e.1, e.2);
    has_run = λ e. e;
    bad_ledger = λ place e file t. let b = e file t in (b.0, b.1, f b.2, b.3);
    ledger_limit = λ need most e. (f e.0, e.1, e.2, e.3, e.4);
  }) answer e

  abbrev On : Status → Type 0
  On answer = GoesOn disk workers options limit first last old told U answer

  abbrev OnBelow : Status → Type 0
  OnBelow answer = GoesOn disk workers options limit first last old new V answer

  goes_on_ok : Keeps told new → (U → V) → (answer : Status) → On answer → OnBelow answer
  goes_on_ok keeps f answer g = record {
    goes = g.goes;
    prints = elim g.prints [
      | inl u ↦ inl (f u)
      | inr p ↦ inr (p.0, p.1, p.2, p.3, λ file t. kept_part p.0.search _ old told new part (p.4 file t))
    ];
    ends = ends_ok keeps f answer g.ends;
    idle = g.idle;
    honest = g.honest;
  }

  goes_on_err : (U → ⊥) → (answer : Status) → On answer → OnBelow WriteFault
  goes_on_err never answer g = record {
    goes = g.goes;
    prints = elim g.prints [
      | inl u ↦ absurd (never u)
      | inr p ↦ inr (p.0, p.1, p.2, p.3, λ file t. kept_part p.0.search _ old told new part (p.4 file t))
    ];
    ends = tt;
    idle = g.idle;
    honest = g.honest;
  }

  -- whatever the end
  pub through : (status answer : Status) {E : Type 0} (end : Result (Unit {0}) E) → On status → OnOk end (answer ≡ status) → OnErr end (answer ≡ WriteFault) →
      OnOk end (Keeps told new) → (U → V × IsOk end) → OnBelow answer
  through status answer (Ok x) g ok err keeps f = rw ok (goes_on_ok keeps (λ u. (f u).0) status g)
  through status answer (Err e) g ok err keeps f = rw err (goes_on_err (λ u. not_ok e (f u).1) status g)

-- the same, where the buffered sink told at first what the sink below it did
pub through_from : {D W : Type 0} (disk : Disk D) (workers : Workers W) (options : Options) (limit : ℕ) (first last : Resources D W) (old start told new : Option (List ℕ))
    (U V : Type 0) → ((text : List ℕ) → AppendsPart old told text → AppendsPart old new text) → (status answer : Status) {E : Type 0} (end : Result (Unit {0}) E) → start ≡ old →
    GoesOn disk workers options limit first last start told U status → OnOk end (answer ≡ status) → OnErr end (answer ≡ WriteFault) → OnOk end (Keeps told new) →
    (U → V × IsOk end) → GoesOn disk workers options limit first last old new V answer
through_from disk workers options limit first last old start told new U V part status answer end same g ok err keeps f =
    through disk workers options limit first last old told new U V part status answer end (rw (← same) g) ok err keeps f
