use Rattle.std.proofs.Common.{◌≡◌, inl, inr, refl, ap, Err}
use Rattle.std.specs.Result.{IsErrOf}
use Rattle.poly_model.specs.declared.listed.Count.{Count}
use Rattle.work_core.specs.declared.stops.JobStop.{JobStop}
use Rattle.lrs_cli.proofs.JobLemmas.{of_front, done_of_front}
use Rattle.lrs_cli.proofs.job.answer_job.Goals as goal

-- one stop is not another
other : (stop one two : JobStop) → stop ≡ one → (one ≡ two → ⊥) → IsErrOf {T = Count} {E = JobStop} (Err stop) two → ⊥
other stop one two is never e = never (let f : stop ≡ two = cc in cc)

pub returns-in-Ok-clause-answers : goal.returns-in-Ok-clause-answers
returns-in-Ok-clause-answers g c = record {
  comes = (refl, c.in-Ok.ensures.end, done_of_front _ _ _ _ c.in-Ok.count c.in-Ok.ensures.done);
  reads = λ n. c.in-Ok.ensures.reads (λ e. cc);
  writes = λ n. c.in-Ok.ensures.writes (λ e. cc);
}

pub returns-in-Err-BadJob-clause-answers : goal.returns-in-Err-BadJob-clause-answers
returns-in-Err-BadJob-clause-answers g c =
    let stop = c.in-Err-BadJob in
    let bad = stop.ensures.bad stop.place (ap Err stop.field-0-is) in
    record {
      comes = (bad.0, of_front _ _ _ bad.1);
      reads = λ n. stop.ensures.reads (other _ _ _ stop.field-0-is (λ e. cc));
      writes = λ n. stop.ensures.writes (other _ _ _ stop.field-0-is (λ e. cc));
    }

pub returns-in-Err-Overflow-clause-answers : goal.returns-in-Err-Overflow-clause-answers
returns-in-Err-Overflow-clause-answers g c =
    let stop = c.in-Err-Overflow in
    record {
      comes = of_front _ _ _ (stop.ensures.overflow stop.overflow (ap Err stop.field-0-is));
      reads = λ n. stop.ensures.reads (other _ _ _ stop.field-0-is (λ e. cc));
      writes = λ n. stop.ensures.writes (other _ _ _ stop.field-0-is (λ e. cc));
    }

pub returns-in-Err-ReadFault-clause-answers : goal.returns-in-Err-ReadFault-clause-answers
returns-in-Err-ReadFault-clause-answers g c =
    let stop = c.in-Err-ReadFault in
    record {
      comes = stop.ensures.read (ap Err stop.field-0-is);
      reads = λ n. absurd (n refl);
      writes = λ n. stop.ensures.writes (other _ _ _ stop.field-0-is (λ e. cc));
    }

pub returns-in-Err-WriteFault-clause-answers : goal.returns-in-Err-WriteFault-clause-answers
returns-in-Err-WriteFault-clause-answers g c =
    let stop = c.in-Err-WriteFault in
    let part = stop.ensures.write (ap Err stop.field-0-is) in
    record {
      comes = (part.0, of_front _ _ _ part.1);
      reads = λ n. stop.ensures.reads (other _ _ _ stop.field-0-is (λ e. cc));
      writes = λ n. absurd (n refl);
    }

pub returns-in-Err-Memory-clause-answers : goal.returns-in-Err-Memory-clause-answers
returns-in-Err-Memory-clause-answers g c =
    let stop = c.in-Err-Memory in
    record {
      comes = elim (stop.ensures.memory (ap Err stop.field-0-is)) [ inl u ↦ inl u | inr r ↦ inr (of_front _ _ _ r) ];
      reads = λ n. stop.ensures.reads (other _ _ _ stop.field-0-is (λ e. cc));
      writes = λ n. stop.ensures.writes (other _ _ _ stop.field-0-is (λ e. cc));
    }
