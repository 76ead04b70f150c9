use Rattle.std.proofs.Common.{◌⊎◌, inl, inr, ⊎_elim, [], ◌∷◌, refl}
use Rattle.std.proofs.lemmas.Result.{on_ok_weaker}
use Rattle.disk_core.proofs.Moments.{joined, weaker}
use Rattle.job_ledger.specs.Records.{HasNoRun, Records, RecordsOldOrNew}
use Rattle.job_ledger.proofs.GateLemmas.{no_run}
use Rattle.job_ledger.proofs.gate.write_first.Goals as goal

pub returns-in_err-first_gate-clause-moments : goal.returns-in_err-first_gate-clause-moments
returns-in_err-first_gate-clause-moments g c f told p size none short only is =
    let d = g.D.Disk in
    weaker d.moment d.since c.args.disk.now c.first_gate.new.disk HasNoRun (λ e. HasNoRun e ⊎ Records (p ∷ []) e) (c.first_gate.ensures.moments f told size none only) (λ e. inl)

pub returns-clause-moments : goal.returns-clause-moments
returns-clause-moments g c f told p size none short only is =
    let d = g.D.Disk in
    let (mid, told_mid, has, only_mid) = c.in_ok-first_gate.ensures.done f told size none only in
    let second = c.write_record.ensures.moments mid told_mid [] p (record { has = has; place = refl }) short only_mid is in
    joined d.moment d.since c.args.disk.now c.first_gate.new.disk c.write_record.new.disk HasNoRun (RecordsOldOrNew [] p) (λ e. HasNoRun e ⊎ Records (p ∷ []) e)
    (c.first_gate.ensures.moments f told size none only) second (λ e. inl) (λ e. ⊎_elim (λ old. inl (no_run e old)) inr)

pub returns-clause-kept : goal.returns-clause-kept
returns-clause-kept g c = on_ok_weaker c.write_record.result (λ done f told p size none short only is.
    let (mid, told_mid, has, only_mid) = c.in_ok-first_gate.ensures.done f told size none only in
    done mid told_mid [] p (record { has = has; place = refl }) short is) c.write_record.ensures.kept
