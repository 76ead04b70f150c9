use Rattle.std.proofs.Common.{◌≡◌, refl, ap, Err, ℕ}
use Rattle.std.specs.Result.{IsErrOf}
use Rattle.run_ledger.specs.declared.stops.StatusStop.{StatusStop}
use Rattle.run_ledger.specs.declared.stops.StatusStop.TheVariants as stops
use Rattle.lrs_cli.specs.declared.status.Status.TheVariants.{DiskFault, WriteFault}
use Rattle.lrs_cli.proofs.ProgressLemmas.{rose_not, rose_there}
use Rattle.lrs_cli.proofs.progress.progress_of.Goals as goal

-- one stop is not another
other : (stop one two : StatusStop) → stop ≡ one → (one ≡ two → ⊥) → IsErrOf {T = ℕ} {E = StatusStop} (Err stop) two → ⊥
other stop one two is never e = never (let f : stop ≡ two = cc in cc)

pub returns-in-Ok : goal.returns-in-Ok
returns-in-Ok g c =
    let e = c.in-Ok.ensures in
    record {
      tells = (refl, e.done);
      leaves = c.status.ensures.leaves;
      writes = rose_not stops.WriteFault _ WriteFault _ _ _ e.sink_cause (λ x. cc) (λ x. cc);
      disk_calls = rose_not stops.DiskFault _ DiskFault _ _ _ e.disk_cause (λ x. cc) (λ x. cc);
    }

pub returns-in-Err-NoRun : goal.returns-in-Err-NoRun
returns-in-Err-NoRun g c =
    let stop = c.in-Err-NoRun in
    record {
      tells = (stop.ensures.unwritten (other _ _ _ stop.field-0-is (λ e. cc)), stop.ensures.none (ap Err stop.field-0-is));
      leaves = c.status.ensures.leaves;
      writes = rose_not stops.WriteFault _ WriteFault _ _ _ stop.ensures.sink_cause (other _ _ _ stop.field-0-is (λ e. cc)) (λ e. cc);
      disk_calls = rose_not stops.DiskFault _ DiskFault _ _ _ stop.ensures.disk_cause (other _ _ _ stop.field-0-is (λ e. cc)) (λ e. cc);
    }

pub returns-in-Err-BadLedger : goal.returns-in-Err-BadLedger
returns-in-Err-BadLedger g c =
    let stop = c.in-Err-BadLedger in
    record {
      tells = (stop.ensures.unwritten (other _ _ _ stop.field-0-is (λ e. cc)), stop.ensures.bad stop.place (ap Err stop.field-0-is));
      leaves = c.status.ensures.leaves;
      writes = rose_not stops.WriteFault _ WriteFault _ _ _ stop.ensures.sink_cause (other _ _ _ stop.field-0-is (λ e. cc)) (λ e. cc);
      disk_calls = rose_not stops.DiskFault _ DiskFault _ _ _ stop.ensures.disk_cause (other _ _ _ stop.field-0-is (λ e. cc)) (λ e. cc);
    }

pub returns-in-Err-DiskFault : goal.returns-in-Err-DiskFault
returns-in-Err-DiskFault g c =
    let stop = c.in-Err-DiskFault in
    record {
      tells = stop.ensures.unwritten (other _ _ _ stop.field-0-is (λ e. cc));
      leaves = c.status.ensures.leaves;
      writes = rose_not stops.WriteFault _ WriteFault _ _ _ stop.ensures.sink_cause (other _ _ _ stop.field-0-is (λ e. cc)) (λ e. cc);
      disk_calls = rose_there stops.DiskFault _ DiskFault _ _ stop.ensures.disk_cause (ap Err stop.field-0-is);
    }

pub returns-in-Err-WriteFault : goal.returns-in-Err-WriteFault
returns-in-Err-WriteFault g c =
    let stop = c.in-Err-WriteFault in
    record {
      tells = stop.ensures.part (ap Err stop.field-0-is);
      leaves = c.status.ensures.leaves;
      writes = rose_there stops.WriteFault _ WriteFault _ _ stop.ensures.sink_cause (ap Err stop.field-0-is);
      disk_calls = rose_not stops.DiskFault _ DiskFault _ _ _ stop.ensures.disk_cause (other _ _ _ stop.field-0-is (λ e. cc)) (λ e. cc);
    }

pub returns-in-Err-Memory : goal.returns-in-Err-Memory
returns-in-Err-Memory g c =
    let stop = c.in-Err-Memory in
    record {
      tells = stop.ensures.unwritten (other _ _ _ stop.field-0-is (λ e. cc));
      leaves = c.status.ensures.leaves;
      writes = rose_not stops.WriteFault _ WriteFault _ _ _ stop.ensures.sink_cause (other _ _ _ stop.field-0-is (λ e. cc)) (λ e. cc);
      disk_calls = rose_not stops.DiskFault _ DiskFault _ _ _ stop.ensures.disk_cause (other _ _ _ stop.field-0-is (λ e. cc)) (λ e. cc);
    }
