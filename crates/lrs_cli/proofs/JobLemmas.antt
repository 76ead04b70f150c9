-- The answer of `job`: of the front of what the source had, and through a buffer.
use Rattle.std.specs.Prelude.{IsOk, OnOk, OnErr}
use Rattle.std.proofs.Common.{◌≡◌, ◌⊎◌, ◌++◌, ◌+◌, ◌≤◌, inl, inr, ℕ, List, [], length, take, take_all, append-nil, Option, Some, None, Result, Ok, Err, arith, refl, sym, subst, ap, ◌∙◌}
use Rattle.std.specs.Io.KnownBytes.{Keeps}
use Rattle.std.proofs.KnownBytes.{Appends-kept}
use Rattle.std.proofs.lemmas.List.{take-append-le}
use Rattle.poly_io.specs.Causes.{HasCause}
use Rattle.poly_io.specs.Written.{AppendsPart}
use Rattle.poly_io.proofs.Parts.{part_of_all}
use Rattle.poly_model.specs.declared.listed.Count.{Count}
use Rattle.job_text.specs.declared.reply.Tail.{Tail}
use Rattle.job_text.specs.declared.reply.Tail.TheVariants.{End, Overflow as Overflowed, Memory}
use Rattle.job_text.specs.Limits.{most_job_bytes}
use Rattle.worker_job.specs.Runs.{Replies, RepliesInPart, TakesText}
use Rattle.lrs_cli.specs.declared.status.Status.{Status}
use Rattle.lrs_cli.specs.declared.status.Status.TheVariants.{Done, Usage, BadFile, BadJob, Infeasible, Overflow, ReadFault, WriteFault, DiskFault, Lost, NoRun, HasRun, BadLedger, LedgerLimit, OutOfMemory}
use Rattle.lrs_cli.specs.Job.{OfFront, IsReplied, ComesOfJob, AnswersJob}
use Rattle.lrs_cli.specs.Streams.{streams}
use Rattle.lrs_cli.proofs.ThroughLemmas.{not_ok}

-- ---- the front of what the source had
abbrev most : ℕ
most = most_job_bytes + 1

front_of_all : (text rest : List ℕ) → length text ≤ most → (rest ≡ []) ⊎ (length text ≡ most) → take most (text ++ rest) ≡ text
front_of_all text rest within (inl end) = rw (end, append-nil text) (take_all most text within)
front_of_all text rest within (inr long) =
    take-append-le most text rest (omega (arith, long)) ∙ take_all most text (omega (arith, long))

front_of_known : (whole : List ℕ) (new : Option (List ℕ)) (P : List ℕ → Type 0) → TakesText (Some whole) new P → P (take most whole)
front_of_known whole None P t = absurd t.taken
front_of_known whole (Some rest) P t =
    subst P (sym (ap (take most) t.taken ∙ front_of_all t.text rest t.within t.enough)) t.holds

pub of_front : (old new : Option (List ℕ)) (P : List ℕ → Type 0) → TakesText old new P → OfFront old P
of_front old new P t whole told =
    front_of_known whole new P (subst (λ (s : Option (List ℕ)). TakesText s new P) told t)

also : (left : Option (List ℕ)) (P Q : List ℕ → Type 0) → ((text : List ℕ) → P text → Q text) → OfFront left P →
    OfFront left Q
also left P Q f h text told = f (take most text) (h text told)

pub done_of_front : (left after old new : Option (List ℕ)) (count : Count) → TakesText left after (Replies old new (End count)) →
    OfFront left (IsReplied old new count.rows)
done_of_front left after old new count t =
    also left (Replies old new (End count)) (IsReplied old new count.rows) (λ text r. (count, refl, r)) (of_front left after _ t)

-- ---- through a buffer
module _ (old told new : Option (List ℕ)) (parts : (text : List ℕ) → AppendsPart old told text → AppendsPart old new text) where
  kept : Keeps told new → (tail : Tail) (text : List ℕ) → Replies old told tail text → Replies old new tail text
  kept keeps tail text h = record {
    job = h.job;
    is_text = h.is_text;
    reply = record {
      may_end = h.reply.may_end;
      text = h.reply.text;
      obeys = h.reply.obeys;
      ends = h.reply.ends;
      outcome = h.reply.outcome;
      written = Appends-kept old told new h.reply.text h.reply.written keeps;
    };
  }

  part : (text : List ℕ) → RepliesInPart old told text → RepliesInPart old new text
  part text h = record {
    job = h.job;
    is_text = h.is_text;
    reply = record { text = h.reply.text; obeys = h.reply.obeys; written = parts h.reply.text h.reply.written };
  }

  part_of_whole : (tail : Tail) (text : List ℕ) → Replies old told tail text → RepliesInPart old new text
  part_of_whole tail text h = record {
    job = h.job;
    is_text = h.is_text;
    reply = record {
      text = h.reply.text;
      obeys = h.reply.obeys;
      written = parts h.reply.text (part_of_all old told h.reply.text h.reply.written);
    };
  }

  module _ (left after_left : Option (List ℕ)) (reads after_reads faults mid_faults new_faults : ℕ) (U W : Type 0) where
    abbrev Comes : Status → Type 0
    Comes status = ComesOfJob (streams left reads old faults) (streams after_left after_reads told mid_faults) U status

    abbrev ComesThrough : Status → Type 0
    ComesThrough status = ComesOfJob (streams left reads old faults) (streams after_left after_reads new new_faults) W status

    -- the sink below has all that the buffered one tells
    comes_ok : Keeps told new → mid_faults ≤ new_faults → (U → W) → (status : Status) → Comes status → ComesThrough status
    comes_ok keeps later f (Done rows lines) h = (
      h.0,
      h.1,
      also left (IsReplied old told rows) (IsReplied old new rows) (λ text r. (r.0, r.1, kept keeps (End r.0) text r.2)) h.2,
    )
    comes_ok keeps later f (BadJob place) h = (f h.0, h.1)
    comes_ok keeps later f (Overflow o) h =
        also left (Replies old told (Overflowed o)) (Replies old new (Overflowed o)) (kept keeps (Overflowed o)) h
    comes_ok keeps later f OutOfMemory (inl u) = inl (f u)
    comes_ok keeps later f OutOfMemory (inr r) =
        inr (also left (Replies old told Memory) (Replies old new Memory) (kept keeps Memory) r)
    comes_ok keeps later f ReadFault h = (f h.0, h.1)
    comes_ok keeps later f WriteFault h = (
      omega (arith, h.0, later),
      also left (RepliesInPart old told) (RepliesInPart old new) part h.1,
    )
    comes_ok keeps later f Usage h = h
    comes_ok keeps later f (BadFile fault) h = h
    comes_ok keeps later f Infeasible h = h
    comes_ok keeps later f DiskFault h = h
    comes_ok keeps later f (Lost lost strays) h = h
    comes_ok keeps later f NoRun h = h
    comes_ok keeps later f HasRun h = h
    comes_ok keeps later f (BadLedger place) h = h
    comes_ok keeps later f (LedgerLimit need limit) h = h

    -- it has the beginning of a reply, whatever the answer was, where something was written
    begun : (U → ⊥) → (status : Status) → Comes status → OfFront left (RepliesInPart old new)
    begun never (Done rows lines) h =
        also left (IsReplied old told rows) (RepliesInPart old new) (λ text r. part_of_whole (End r.0) text r.2) h.2
    begun never (BadJob place) h = absurd (never h.0)
    begun never (Overflow o) h =
        also left (Replies old told (Overflowed o)) (RepliesInPart old new) (part_of_whole (Overflowed o)) h
    begun never OutOfMemory (inl u) = absurd (never u)
    begun never OutOfMemory (inr r) =
        also left (Replies old told Memory) (RepliesInPart old new) (part_of_whole Memory) r
    begun never ReadFault h = absurd (never h.0)
    begun never WriteFault h = also left (RepliesInPart old told) (RepliesInPart old new) part h.1
    begun never Usage h = absurd h
    begun never (BadFile fault) h = absurd h
    begun never Infeasible h = absurd h
    begun never DiskFault h = absurd h
    begun never (Lost lost strays) h = absurd h
    begun never NoRun h = absurd h
    begun never HasRun h = absurd h
    begun never (BadLedger place) h = absurd h
    begun never (LedgerLimit need limit) h = absurd h

    -- whatever the end
    through : (status answer : Status) {E : Type 0} (end : Result (Unit {0}) E) →
        AnswersJob (streams left reads old faults) (streams after_left after_reads told mid_faults) U status →
        OnOk end (answer ≡ status) → OnErr end (answer ≡ WriteFault) → OnOk end (Keeps told new) →
        HasCause mid_faults new_faults end → faults ≤ mid_faults → (U → W × IsOk end) →
        AnswersJob (streams left reads old faults) (streams after_left after_reads new new_faults) W answer
    through status answer (Ok x) h ok err keeps cause later f = rw ok (record {
      comes = comes_ok keeps cause.later (λ u. (f u).0) status h.comes;
      reads = h.reads;
      writes = λ n. cause.same ∙ h.writes n;
    })
    through status answer (Err e) h ok err keeps cause later f =
        let never : U → ⊥ = λ u. not_ok e (f u).1 in
        rw err (record {
          comes = (omega (arith, cause.failed, later), begun never status h.comes);
          reads = λ n. h.reads (λ s. never (subst Comes s h.comes).0);
          writes = λ n. absurd (n refl);
        })

-- the same, where the buffered sink told at first what the sink below it did
pub through_from : (old first told new : Option (List ℕ)) →
    ((text : List ℕ) → AppendsPart old told text → AppendsPart old new text) → (left after_left : Option (List ℕ))
    (reads after_reads faults first_faults mid_faults new_faults : ℕ) (U W : Type 0) (status answer : Status) {E : Type 0}
    (end : Result (Unit {0}) E) → first ≡ old → first_faults ≡ faults →
    AnswersJob (streams left reads first first_faults) (streams after_left after_reads told mid_faults) U status →
    OnOk end (answer ≡ status) → OnErr end (answer ≡ WriteFault) → OnOk end (Keeps told new) →
    HasCause mid_faults new_faults end → first_faults ≤ mid_faults → (U → W × IsOk end) →
    AnswersJob (streams left reads old faults) (streams after_left after_reads new new_faults) W answer
through_from old first told new parts left after_left reads after_reads faults first_faults mid_faults new_faults U W status
    answer end same same_faults h ok err keeps cause later f =
    through old told new parts left after_left reads after_reads faults mid_faults new_faults U W status answer end
    (rw (← same, ← same_faults) h) ok err keeps cause (rw (← same_faults) later) f
