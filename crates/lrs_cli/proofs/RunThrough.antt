-- `run` through a buffer: what holds of the buffered sink, and of its end, holds of the sink below it.
use Rattle.std.proofs.Common.{arith, ℕ, List, ◌≡◌, ◌≤◌, inl, inr, refl, sym, subst, Option, Result, Ok, Err, OnOk, OnErr, IsOk}
use Rattle.std.specs.Io.KnownBytes.{Keeps}
use Rattle.std.proofs.KnownBytes.{Appends-kept}
use Rattle.poly_io.specs.Causes.{Rose, HasCause}
use Rattle.poly_io.specs.Written.{AppendsPart}
use Rattle.work_core.specs.Searches.{Search}
use Rattle.disk_core.specs.declared.disk.Disk.{Ghosts as Disk}
use Rattle.workers_io.specs.declared.workers.Workers.{Ghosts as Workers}
use Rattle.coordinator_core.specs.declared.options.Options.{Options}
use Rattle.lrs_cli.specs.declared.status.Status.{Status}
use Rattle.lrs_cli.specs.declared.status.Status.TheVariants.{ReadFault, WriteFault}
use Rattle.lrs_cli.specs.Ledgers.{DiskRose, Resources, RoseAt, WritesRecords, WritesRecordsPart}
use Rattle.lrs_cli.specs.Run.{EndsSearch, RunsFile, RunsSearch}
use Rattle.lrs_cli.specs.Streams.{streams}
use Rattle.lrs_cli.proofs.CarriedEnds.{carried}
use Rattle.lrs_cli.proofs.ThroughLemmas.{not_ok}

-- ---- what records list
module _ (s : Search) (records : List (List ℕ)) (old told new : Option (List ℕ)) where
  pub kept_whole : Keeps told new → (rows lines : ℕ) → WritesRecords s records old told rows lines → WritesRecords s records old new rows lines
  kept_whole keeps rows lines w = record {
    replies = w.replies;
    is_text = w.is_text;
    text = w.text;
    counted = w.counted;
    written = Appends-kept old told new w.text w.written keeps;
  }

  pub kept_part : ((text : List ℕ) → AppendsPart old told text → AppendsPart old new text) → WritesRecordsPart s records old told → WritesRecordsPart s records old new
  kept_part part w = record { replies = w.replies; is_text = w.is_text; text = w.text; is_listing = w.is_listing; written = part w.text w.written }

-- ---- counts of faults
rose_kept : (fault answer : Status) (before mid now : ℕ) → RoseAt fault answer before mid → now ≡ mid → RoseAt fault answer before now
rose_kept fault answer before mid now r same = subst (RoseAt fault answer before) (sym same) r

rose_at_end : (answer : Status) (before mid now : ℕ) → RoseAt WriteFault answer before mid → mid ≤ now → Rose mid now → RoseAt WriteFault WriteFault before now
rose_at_end answer before mid now r later rose = record {
  later = omega (arith, r.later, later);
  failed = λ e. omega (arith, r.later, rose);
  same = λ n. absurd (n refl);
}

-- what the end makes of it
pub writes_ended : (status answer : Status) (before mid now : ℕ) {E : Type 0} (end : Result (Unit {0}) E) → RoseAt WriteFault status before mid → OnOk end (answer ≡ status) →
    OnErr end (answer ≡ WriteFault) → HasCause mid now end → RoseAt WriteFault answer before now
writes_ended status answer before mid now (Ok x) r ok err cause = rw ok (rose_kept WriteFault status before mid now r cause.same)
writes_ended status answer before mid now (Err e) r ok err cause = rw err (rose_at_end status before mid now r cause.later cause.failed)

-- where nothing was read, whatever the answer
not_read : (answer : Status) (before now : ℕ) → RoseAt ReadFault answer before now → (answer ≡ ReadFault → ⊥) → RoseAt ReadFault WriteFault before now
not_read answer before now r n = record { later = r.later; failed = λ e. absurd (cc); same = λ m. r.same n }

-- a write fault may hide one of the disk
disk_hidden : (answer : Status) (before now : ℕ) → DiskRose answer before now → DiskRose WriteFault before now
disk_hidden answer before now r = record { later = r.later; failed = λ e. absurd (cc); same = λ n m. absurd (m refl) }

pub disk_ended : (status answer : Status) (before now : ℕ) {E : Type 0} (end : Result (Unit {0}) E) → DiskRose status before now → OnOk end (answer ≡ status) →
    OnErr end (answer ≡ WriteFault) → DiskRose answer before now
disk_ended status answer before now (Ok x) r ok err = rw ok r
disk_ended status answer before now (Err e) r ok err = rw err (disk_hidden status before now r)

module _ {D W : Type 0} (disk : Disk D) (workers : Workers W) (options : Options) (limit : ℕ) (first last : Resources D W) where
  -- ---- a search
  module _ (s : Search) (old told new : Option (List ℕ)) (U V : Type 0) (part : (text : List ℕ) → AppendsPart old told text → AppendsPart old new text) where
    abbrev Ends : Status → Type 0
    Ends answer = EndsSearch disk workers options limit s first last old told U answer

    abbrev EndsBelow : Status → Type 0
    EndsBelow answer = EndsSearch disk workers options limit s first last old new V answer

    ends_ok : Keeps told new → (U → V) → (answer : Status) → Ends answer → EndsBelow answer
    ends_ok keeps f answer e = carried _ _ (record {
      done = λ rows lines e. (e.0, e.1, e.2, λ file t. let d = e.3 file t in (d.0, kept_whole s _ old told new keeps rows lines d.1));
      lost = λ lost strays e. (f e.0, e.1, e.2, e.3);
      overflow = λ o e. (f e.0, e.1);
      infeasible = λ e. e;
      no_run = λ e. e;
      has_run = λ e. (f e.0, e.1, e.2, e.3);
      bad_ledger = λ place e. e;
      ledger_limit = λ need most e. (f e.0, e.1, e.2, e.3);
    }) answer e

    -- of a search no read fails
    pub no_read : (answer : Status) → Ends answer → answer ≡ ReadFault → ⊥
    no_read answer e is = subst Ends is e

    pub search_ok : Keeps told new → (U → V) → (answer : Status) → RunsSearch disk workers options limit s first last old told U answer →
        RunsSearch disk workers options limit s first last old new V answer
    search_ok keeps f answer r = record {
      goes = r.goes;
      prints = elim r.prints [
        | inl u ↦ inl (f u)
        | inr p ↦ inr (p.0, p.1, p.2, λ file t. kept_part s _ old told new part (p.3 file t))
      ];
      ends = ends_ok keeps f answer r.ends;
      honest = r.honest;
    }

    pub search_err : (U → ⊥) → (answer : Status) → RunsSearch disk workers options limit s first last old told U answer →
        RunsSearch disk workers options limit s first last old new V WriteFault
    search_err never answer r = record {
      goes = r.goes;
      prints = elim r.prints [
        | inl u ↦ absurd (never u)
        | inr p ↦ inr (p.0, p.1, p.2, λ file t. kept_part s _ old told new part (p.3 file t))
      ];
      ends = tt;
      honest = r.honest;
    }

  -- ---- a file
  module _ (left after_left : Option (List ℕ)) (reads after_reads : ℕ) (old told new : Option (List ℕ)) (faults mid_faults new_faults : ℕ) (U V : Type 0)
      (part : (text : List ℕ) → AppendsPart old told text → AppendsPart old new text) where
    abbrev Runs : Status → Type 0
    Runs answer = RunsFile disk workers options limit first last (streams left reads old faults) (streams after_left after_reads told mid_faults) U answer

    abbrev RunsBelow : Status → Type 0
    RunsBelow answer = RunsFile disk workers options limit first last (streams left reads old faults) (streams after_left after_reads new new_faults) V answer

    -- whatever the end
    pub through : (status answer : Status) {E : Type 0} (end : Result (Unit {0}) E) → Runs status → OnOk end (answer ≡ status) → OnErr end (answer ≡ WriteFault) →
        OnOk end (Keeps told new) → HasCause mid_faults new_faults end → (U → V × IsOk end) → RunsBelow answer
    through status answer (Ok x) h ok err keeps cause f = rw ok (record {
      comes = elim h.comes [
        | inl r ↦ inl (r.0, r.1, (f r.2).0)
        | inr r ↦ inr (r.0, r.1, r.2, r.3, search_ok r.0 old told new U V part keeps (λ u. (f u).0) status r.4)
      ];
      reads = h.reads;
      writes = rose_kept WriteFault status faults mid_faults new_faults h.writes cause.same;
      disk_calls = h.disk_calls;
    })
    through status answer (Err e) h ok err keeps cause f =
        let never : U → ⊥ = λ u. not_ok e (f u).1 in
        rw err (elim h.comes [
          | inl r ↦ absurd (never r.2)
          | inr r ↦ record {
            comes = inr (r.0, r.1, r.2, r.3, search_err r.0 old told new U V part never status r.4);
            reads = not_read status reads after_reads h.reads (no_read r.0 old told new U V part status r.4.ends);
            writes = rose_at_end status faults mid_faults new_faults h.writes cause.later cause.failed;
            disk_calls = disk_hidden status (disk.faults first.disk) (disk.faults last.disk) h.disk_calls;
          }
        ])

  -- the same, where the buffered sink told at first what the sink below it did
  pub through_from : (left after_left : Option (List ℕ)) (reads after_reads : ℕ) (old start told new : Option (List ℕ)) (faults start_faults mid_faults new_faults : ℕ)
      (U V : Type 0) → ((text : List ℕ) → AppendsPart old told text → AppendsPart old new text) → (status answer : Status) {E : Type 0} (end : Result (Unit {0}) E) →
      start ≡ old → start_faults ≡ faults →
      RunsFile disk workers options limit first last (streams left reads start start_faults) (streams after_left after_reads told mid_faults) U status →
      OnOk end (answer ≡ status) → OnErr end (answer ≡ WriteFault) → OnOk end (Keeps told new) → HasCause mid_faults new_faults end → (U → V × IsOk end) →
      RunsFile disk workers options limit first last (streams left reads old faults) (streams after_left after_reads new new_faults) V answer
  through_from left after_left reads after_reads old start told new faults start_faults mid_faults new_faults U V part status answer end same same_faults h ok err keeps cause f =
      through left after_left reads after_reads old told new faults mid_faults new_faults U V part status answer end (rw (← same, ← same_faults) h) ok err keeps cause f
