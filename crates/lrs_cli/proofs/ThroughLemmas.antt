-- The answer of `convert` through a buffer: what holds of the buffered sink, and of its end, holds of the sink below it.
use Rattle.std.proofs.Common.{◌≡◌, ℕ, List, Option, Result, Ok, Err, OnOk, OnErr, IsOk, arith, inl, inr, refl, sym, subst, ◌∙◌}
use Rattle.std.specs.Io.KnownBytes.{Keeps}
use Rattle.std.proofs.KnownBytes.{Appends-kept}
use Rattle.poly_io.proofs.Parts.{part_of_all}
use Rattle.poly_io.specs.Causes.{Rose, HasCause}
use Rattle.poly_io.specs.Written.{AppendsPart}
use Rattle.poly_model.specs.Systems.{Polyhedron, cone_of}
use Rattle.poly_model.specs.Extreme.{IsFeasible}
use Rattle.disk_core.specs.Contents.{Told}
use Rattle.lrs_cli.specs.declared.status.Status.{Status}
use Rattle.lrs_cli.specs.declared.status.Status.TheVariants.{Done, Usage, BadFile, BadJob, Infeasible, Overflow, ReadFault, WriteFault, DiskFault, Lost, NoRun, HasRun, BadLedger, LedgerLimit, OutOfMemory}
use Rattle.lrs_cli.specs.Answers.{Describes, WritesWhole, WritesPart, IsPartlyListed, IsFeasibleFile, WritesNothing}
use Rattle.lrs_cli.specs.Streams.{Streams, streams}
use Rattle.lrs_cli.specs.Convert.{AnswersConvert}

-- a fact of a described polyhedron gives another
told_also : (left : Option (List ℕ)) (P Q : Polyhedron → Type 0) → ((p : Polyhedron) → P p → Q p) →
    Told left (λ t. Describes P t) → Told left (λ t. Describes Q t)
told_also left P Q f d text told =
    let t = d text told in record { polyhedron = t.polyhedron; read = t.read; holds = f t.polyhedron t.holds }

-- the sink below has all that the buffered one tells
pub through_ok : (left after_left : Option (List ℕ)) (reads after_reads : ℕ) (old told new : Option (List ℕ))
    (faults mid_faults new_faults : ℕ) (U W : Type 0) (status : Status) →
    AnswersConvert
    (record { left = left; read_faults = reads; written = old; write_faults = faults })
    (record { left = after_left; read_faults = after_reads; written = told; write_faults = mid_faults }) U status →
    Keeps told new → ((text : List ℕ) → AppendsPart old told text → AppendsPart old new text) →
    new_faults ≡ mid_faults → (U → W) →
    AnswersConvert
    (record { left = left; read_faults = reads; written = old; write_faults = faults })
    (record { left = after_left; read_faults = after_reads; written = new; write_faults = new_faults }) W status
through_ok left after_left reads after_reads old told new faults mid_faults new_faults U W status h keeps part same f =
    record {
      done = λ rows lines e.
          let d = h.done rows lines e in (
            d.0,
            told_also left (WritesWhole old told rows lines) (WritesWhole old new rows lines) (λ p w. record {
              feasible = w.feasible;
              listing = w.listing;
              counted = w.counted;
              written = Appends-kept old told new w.listing w.written keeps;
            }) d.1,
          );
      infeasible = h.infeasible;
      overflow = h.overflow;
      stopped = λ s. told_also left (WritesPart old told) (WritesPart old new) (λ p w. record {
        listing = w.listing;
        is_listing = w.is_listing;
        written = part w.listing w.written;
      }) (h.stopped s);
      printed = λ s. elim (h.printed s) [ inl u ↦ inl (f u) | inr d ↦ inr d ];
      bad_file = h.bad_file;
      comes = h.comes;
      read_fault = h.read_fault;
      reads = h.reads;
      write_fault = λ e. rw same (h.write_fault e);
      writes = λ n. same ∙ h.writes n;
      unwritten = λ w. f (h.unwritten w);
      complete = λ known n m. h.complete known n (λ r. m (rw same r));
    }

-- what the buffered sink tells, whatever the answer was, where something was written
partly : (before mid : Streams) (U : Type 0) (status : Status) → AnswersConvert before mid U status → (U → ⊥) →
    Told before.left (IsPartlyListed before.written mid.written)
partly before mid U (Done rows lines) h never =
    let old = before.written in
    let told = mid.written in
    told_also before.left (WritesWhole old told rows lines) (WritesPart old told) (λ p w. record {
      listing = w.listing;
      is_listing = w.counted.listing;
      written = part_of_all old told w.listing w.written;
    }) (h.done rows lines refl).1
partly before mid U (Overflow o) h never = h.stopped tt
partly before mid U WriteFault h never = h.stopped tt
partly before mid U Infeasible h never = absurd (never (h.unwritten tt))
partly before mid U OutOfMemory h never = absurd (never (h.unwritten tt))
partly before mid U (BadFile f) h never = absurd (never (h.unwritten tt))
partly before mid U (BadJob place) h never = absurd (never (h.unwritten tt))
partly before mid U Usage h never = absurd (never (h.unwritten tt))
partly before mid U ReadFault h never = absurd (never (h.unwritten tt))
partly before mid U DiskFault h never = absurd (never (h.unwritten tt))
partly before mid U (Lost lost strays) h never = absurd (never (h.unwritten tt))
partly before mid U NoRun h never = absurd (never (h.unwritten tt))
partly before mid U HasRun h never = absurd (never (h.unwritten tt))
partly before mid U (BadLedger place) h never = absurd (never (h.unwritten tt))
partly before mid U (LedgerLimit need limit) h never = absurd (never (h.unwritten tt))

-- then the file has a point
feasible : (before mid : Streams) (U : Type 0) (status : Status) → AnswersConvert before mid U status → (U → ⊥) →
    Told before.left IsFeasibleFile
feasible before mid U (Done rows lines) h never =
    told_also before.left (WritesWhole before.written mid.written rows lines) (λ p. IsFeasible (cone_of p))
    (λ p w. w.feasible) (h.done rows lines refl).1
feasible before mid U (Overflow o) h never = elim (h.printed tt) [ inl u ↦ absurd (never u) | inr d ↦ d ]
feasible before mid U WriteFault h never = elim (h.printed tt) [ inl u ↦ absurd (never u) | inr d ↦ d ]
feasible before mid U Infeasible h never = absurd (never (h.unwritten tt))
feasible before mid U OutOfMemory h never = absurd (never (h.unwritten tt))
feasible before mid U (BadFile f) h never = absurd (never (h.unwritten tt))
feasible before mid U (BadJob place) h never = absurd (never (h.unwritten tt))
feasible before mid U Usage h never = absurd (never (h.unwritten tt))
feasible before mid U ReadFault h never = absurd (never (h.unwritten tt))
feasible before mid U DiskFault h never = absurd (never (h.unwritten tt))
feasible before mid U (Lost lost strays) h never = absurd (never (h.unwritten tt))
feasible before mid U NoRun h never = absurd (never (h.unwritten tt))
feasible before mid U HasRun h never = absurd (never (h.unwritten tt))
feasible before mid U (BadLedger place) h never = absurd (never (h.unwritten tt))
feasible before mid U (LedgerLimit need limit) h never = absurd (never (h.unwritten tt))

-- the end failed
through_err : (before mid after : Streams) (U W : Type 0) (status : Status) → AnswersConvert before mid U status →
    (U → ⊥) → after.read_faults ≡ mid.read_faults →
    ((text : List ℕ) → AppendsPart before.written mid.written text → AppendsPart before.written after.written text) →
    Rose before.write_faults after.write_faults → AnswersConvert before after W WriteFault
through_err before mid after U W status h never same part rose = record {
  done = λ rows lines e. absurd (cc);
  infeasible = λ e. absurd (cc);
  overflow = λ o e. absurd (cc);
  stopped = λ s. told_also before.left (WritesPart before.written mid.written) (WritesPart before.written after.written)
      (λ p w. record { listing = w.listing; is_listing = w.is_listing; written = part w.listing w.written })
      (partly before mid U status h never);
  printed = λ s. inr (feasible before mid U status h never);
  bad_file = λ f e. absurd (cc);
  comes = tt;
  read_fault = λ e. absurd (cc);
  reads = λ n. same ∙ h.reads (λ e. never (h.unwritten (subst WritesNothing (sym e) tt)));
  write_fault = λ e. rose;
  writes = λ n. absurd (n refl);
  unwritten = λ w. absurd w;
  complete = λ known n m. absurd (m rose);
}

-- a count that rose twice
rose_twice : (a b c : ℕ) → Rose a b → Rose b c → Rose a c
rose_twice a b c p q = omega (arith, p, q)

rose_after : (a b c : ℕ) → b ≡ a → Rose b c → Rose a c
rose_after a b c e q = subst (λ n. Rose n c) e q

-- what rose since the answer rose since the call
rose_since : (before mid : Streams) (U : Type 0) (status : Status) (c : ℕ) → AnswersConvert before mid U status →
    Rose mid.write_faults c → Rose before.write_faults c
rose_since before mid U WriteFault c h r = rose_twice before.write_faults mid.write_faults c (h.write_fault refl) r
rose_since before mid U (Done rows lines) c h r =
    rose_after before.write_faults mid.write_faults c (h.writes (λ e. cc)) r
rose_since before mid U (Overflow o) c h r =
    rose_after before.write_faults mid.write_faults c (h.writes (λ e. cc)) r
rose_since before mid U (BadFile f) c h r =
    rose_after before.write_faults mid.write_faults c (h.writes (λ e. cc)) r
rose_since before mid U (BadJob place) c h r =
    rose_after before.write_faults mid.write_faults c (h.writes (λ e. cc)) r
rose_since before mid U Infeasible c h r = rose_after before.write_faults mid.write_faults c (h.writes (λ e. cc)) r
rose_since before mid U OutOfMemory c h r = rose_after before.write_faults mid.write_faults c (h.writes (λ e. cc)) r
rose_since before mid U Usage c h r = rose_after before.write_faults mid.write_faults c (h.writes (λ e. cc)) r
rose_since before mid U ReadFault c h r = rose_after before.write_faults mid.write_faults c (h.writes (λ e. cc)) r
rose_since before mid U DiskFault c h r =
    rose_after before.write_faults mid.write_faults c (h.writes (λ e. cc)) r
rose_since before mid U (Lost lost strays) c h r =
    rose_after before.write_faults mid.write_faults c (h.writes (λ e. cc)) r
rose_since before mid U NoRun c h r =
    rose_after before.write_faults mid.write_faults c (h.writes (λ e. cc)) r
rose_since before mid U HasRun c h r =
    rose_after before.write_faults mid.write_faults c (h.writes (λ e. cc)) r
rose_since before mid U (BadLedger place) c h r =
    rose_after before.write_faults mid.write_faults c (h.writes (λ e. cc)) r
rose_since before mid U (LedgerLimit need limit) c h r =
    rose_after before.write_faults mid.write_faults c (h.writes (λ e. cc)) r

pub not_ok : {E : Type 0} (e : E) → IsOk {T = Unit {0}} (Err e) → ⊥
not_ok e h = cc

-- whatever the end
pub through : (left after_left : Option (List ℕ)) (reads after_reads : ℕ) (old told new : Option (List ℕ))
    (faults mid_faults new_faults : ℕ) (U W : Type 0) (status answer : Status) {E : Type 0} (end : Result (Unit {0}) E) →
    AnswersConvert (streams left reads old faults) (streams after_left after_reads told mid_faults) U status →
    OnOk end (answer ≡ status) → OnErr end (answer ≡ WriteFault) → OnOk end (Keeps told new) →
    ((text : List ℕ) → AppendsPart old told text → AppendsPart old new text) →
    HasCause mid_faults new_faults end → (U → W × IsOk end) →
    AnswersConvert (streams left reads old faults) (streams after_left after_reads new new_faults) W answer
through left after_left reads after_reads old told new faults mid_faults new_faults U W status answer (Ok x) h ok err
    keeps part cause f =
    rw ok (through_ok left after_left reads after_reads old told new faults mid_faults new_faults U W status h keeps part
    cause.same (λ u. (f u).0))
through left after_left reads after_reads old told new faults mid_faults new_faults U W status answer (Err e) h ok err
    keeps part cause f =
    rw err (through_err (streams left reads old faults) (streams after_left after_reads told mid_faults)
    (streams after_left after_reads new new_faults) U W status h (λ u. not_ok e (f u).1) refl part
    (rose_since (streams left reads old faults) (streams after_left after_reads told mid_faults) U status new_faults h
    cause.failed))

-- the same, where the buffered sink told at first what the sink below it did
pub through_from : (left after_left : Option (List ℕ)) (reads after_reads : ℕ) (old first told new : Option (List ℕ))
    (faults first_faults mid_faults new_faults : ℕ) (U W : Type 0) (status answer : Status) {E : Type 0}
    (end : Result (Unit {0}) E) → first ≡ old → first_faults ≡ faults →
    AnswersConvert (streams left reads first first_faults) (streams after_left after_reads told mid_faults) U status →
    OnOk end (answer ≡ status) → OnErr end (answer ≡ WriteFault) → OnOk end (Keeps told new) →
    ((text : List ℕ) → AppendsPart old told text → AppendsPart old new text) →
    HasCause mid_faults new_faults end → (U → W × IsOk end) →
    AnswersConvert (streams left reads old faults) (streams after_left after_reads new new_faults) W answer
through_from left after_left reads after_reads old first told new faults first_faults mid_faults new_faults U W status
    answer end same same_faults h ok err keeps part cause f =
    through left after_left reads after_reads old told new faults mid_faults new_faults U W status answer end
    (rw (← same, ← same_faults) h) ok err keeps part cause f
