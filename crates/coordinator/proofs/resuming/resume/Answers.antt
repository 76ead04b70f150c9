use Rattle.std.proofs.Common.{◌++◌, inl, inr, refl, Err, ap, subst}
use Rattle.job_ledger.specs.Ledgers.{new_ledger, payload_sizes}
use Rattle.run_ledger.proofs.Errors.{none_rose, one_error}
use Rattle.coordinator_core.specs.Machine.{State}
use Rattle.coordinator.specs.declared.stops.GoStop.TheVariants.{DiskFault, WriteFault}
use Rattle.coordinator.specs.declared.stops.ResumeStop.TheVariants.{BadLedger, Infeasible, LedgerLimit, Lost, Overflow, DiskFault as ResumeDiskFault, WriteFault as ResumeWriteFault}
use Rattle.coordinator.specs.Following.{EndsBy, Finishes, GivesUp, LeadsSomewhere}
use Rattle.coordinator.proofs.CallFaults.{rises_as}
use Rattle.coordinator.proofs.CallTexts.{never_bad, printed_err, printed_ok, prints_on}
use Rattle.coordinator.proofs.MoreRecords.{refused_join}
use Rattle.coordinator.proofs.RunsAgain.{goes_again, known_as, rests_there}
use Rattle.coordinator.proofs.resuming.resume.Goals as goal

-- ---- whatever the answer of the call behind the beginning
pub returns-in-Ok-go_on-clause-goes : goal.returns-in-Ok-go_on-clause-goes
returns-in-Ok-go_on-clause-goes g c =
    inr (goes_again g.D.Disk c.args.terms.now.options c.args.disk.now c.reopen.new.disk c.go_on.new.disk c.in-Ok.reopened.core c.in-Ok.reopened.ledger _ _
    c.in-Ok.ensures.quiet c.in-Ok.ensures.kept c.go_on.ensures.goes)

pub returns-in-Ok-clause-goes : goal.returns-in-Ok-clause-goes
returns-in-Ok-clause-goes g c =
    inr (goes_again g.D.Disk c.args.terms.now.options c.args.disk.now c.reopen.new.disk c.go_on.new.disk c.in-Ok.reopened.core c.in-Ok.reopened.ledger _ _
    c.in-Ok.ensures.quiet c.in-Ok.ensures.kept c.go_on.ensures.goes)

-- ---- nothing is started where no key waits
pub returns-in-Ok-go_on-clause-idle : goal.returns-in-Ok-go_on-clause-idle
returns-in-Ok-go_on-clause-idle g c file told r none =
    let k = c.in-Ok.ensures.kept in
    c.go_on.ensures.idle (rests_there (g.D.Disk.seen c.args.disk.now) file told c.args.terms.now.options k.0 r c.in-Ok.reopened.core k.1 none)

pub returns-in-Ok-clause-idle : goal.returns-in-Ok-clause-idle
returns-in-Ok-clause-idle g c file told r none =
    let k = c.in-Ok.ensures.kept in
    c.go_on.ensures.idle (rests_there (g.D.Disk.seen c.args.disk.now) file told c.args.terms.now.options k.0 r c.in-Ok.reopened.core k.1 none)

-- ---- to the end
pub returns-in-Ok-go_on-clause-done : goal.returns-in-Ok-go_on-clause-done
returns-in-Ok-go_on-clause-done g c =
    let p = c.in-Ok-go_on.ensures.done in
    let k = c.in-Ok.ensures.kept in
    let h = g.W.Workers.history in (
      k.0,
      p.0,
      subst (λ (z : State). Finishes z (h c.args.workers.now) (h c.go_on.new.workers) p.0) k.1 p.1,
      λ file told. (
        p.2 k.0.payloads (k.3 file told),
        printed_ok k.0.search (k.0.payloads ++ p.0) _ _ c.in-Ok-go_on.listed
            (prints_on g.D.Disk c.args.terms.now.options k.0.search k.0.replies k.0.payloads p.0 c.in-Ok.reopened.core c.in-Ok.reopened.ledger c.reopen.new.disk _ _
            k.0.is_text k.1 p.1 (k.3 file told) _ _ _ p.3),
      ),
    )

pub returns-in-Ok-clause-part : goal.returns-in-Ok-clause-part
returns-in-Ok-clause-part g c =
    let k = c.in-Ok.ensures.kept in
    let h = g.W.Workers.history in
    elim c.in-Err-go_on.ensures.part [
      | inl same ↦ inl same
      | inr p ↦ inr (
        k.0,
        p.0,
        subst (λ (z : State). Finishes z (h c.args.workers.now) (h c.go_on.new.workers) p.0) k.1 p.1,
        λ file told. (
          p.2 k.0.payloads (k.3 file told),
          printed_err k.0.search (k.0.payloads ++ p.0) _ _ c.in-Err-go_on.stop c.resume_stop.result
              (prints_on g.D.Disk c.args.terms.now.options k.0.search k.0.replies k.0.payloads p.0 c.in-Ok.reopened.core c.in-Ok.reopened.ledger c.reopen.new.disk _ _
              k.0.is_text k.1 p.1 (k.3 file told) _ _ _ p.3),
        ),
      )
    ]

-- ---- stopped
pub returns-in-Ok-clause-lost : goal.returns-in-Ok-clause-lost
returns-in-Ok-clause-lost g c lost strays is =
    let p = c.in-Err-go_on.ensures.lost lost strays (ap Err (c.resume_stop.ensures.lost lost strays (one_error c.resume_stop.result (Lost lost strays) is))) in
    let k = c.in-Ok.ensures.kept in
    let h = g.W.Workers.history in (
      p.0,
      k.0,
      p.1,
      subst (λ (z : State). GivesUp z lost strays (h c.args.workers.now) (h c.go_on.new.workers) p.1) k.1 p.2,
      λ file told. p.3 k.0.payloads (k.3 file told),
    )

pub returns-in-Ok-clause-overflow : goal.returns-in-Ok-clause-overflow
returns-in-Ok-clause-overflow g c o is =
    let p = c.in-Err-go_on.ensures.overflow o (ap Err (c.resume_stop.ensures.overflow o (one_error c.resume_stop.result (Overflow o) is))) in
    let k = c.in-Ok.ensures.kept in
    let h = g.W.Workers.history in (
      p.0,
      k.0,
      inr (
        p.1,
        subst (λ (z : State). EndsBy z o (h c.args.workers.now) (h c.go_on.new.workers) p.1) k.1 p.2,
        λ file told. p.3 k.0.payloads (k.3 file told),
      ),
    )

pub returns-in-Ok-clause-past : goal.returns-in-Ok-clause-past
returns-in-Ok-clause-past g c need most is =
    let p = c.in-Err-go_on.ensures.past need most (ap Err (c.resume_stop.ensures.limit need most (one_error c.resume_stop.result (LedgerLimit need most) is))) in
    let k = c.in-Ok.ensures.kept in
    let h = g.W.Workers.history in (
      p.0,
      k.0,
      p.1,
      subst (λ (z : State). LeadsSomewhere z (h c.args.workers.now) (h c.go_on.new.workers) p.1) k.1 p.2,
      λ file told. refused_join (new_ledger c.args.terms.now.limit) c.in-Ok.reopened.ledger k.0.payloads p.1 need most
          (known_as c.in-Ok.reopened.ledger c.args.terms.now.limit (payload_sizes k.0.payloads) c.in-Ok.ensures.knows (k.3 file told).sizes) p.4,
    )

pub returns-in-Ok-clause-bad : goal.returns-in-Ok-clause-bad
returns-in-Ok-clause-bad g c place is file told =
    let p = c.in-Err-go_on.ensures.bad place (ap Err (c.resume_stop.ensures.bad place (one_error c.resume_stop.result (BadLedger place) is))) in
    let k = c.in-Ok.ensures.kept in
    absurd (never_bad g.D.Disk c.args.terms.now.options k.0.search k.0.replies k.0.payloads p.0 c.in-Ok.reopened.core c.in-Ok.reopened.ledger c.reopen.new.disk _ _
    k.0.is_text k.1 p.1 (k.3 file told) p.2)

pub returns-in-Ok-clause-disk_cause : goal.returns-in-Ok-clause-disk_cause
returns-in-Ok-clause-disk_cause g c =
    rises_as DiskFault ResumeDiskFault c.in-Err-go_on.stop c.resume_stop.result _ _ _ (none_rose ResumeDiskFault _ _ c.in-Ok.reopened c.in-Ok.ensures.cause)
    c.resume_stop.ensures.disk c.resume_stop.ensures.disk_fails c.in-Err-go_on.ensures.disk_cause

pub returns-in-Ok-clause-sink_cause : goal.returns-in-Ok-clause-sink_cause
returns-in-Ok-clause-sink_cause g c =
    rises_as WriteFault ResumeWriteFault c.in-Err-go_on.stop c.resume_stop.result _ _ _ refl
    c.resume_stop.ensures.write c.resume_stop.ensures.write_fails c.in-Err-go_on.ensures.sink_cause

-- ---- not begun
pub returns-clause-overflow : goal.returns-clause-overflow
returns-clause-overflow g c o is =
    let p = c.in-Err.ensures.overflow o (ap Err (one_error c.in-Err.stop (Overflow o) is)) in
    (refl, p.0, inl (p.1, refl, p.2))

pub returns-clause-bad : goal.returns-clause-bad
returns-clause-bad g c place is file told =
    let p = c.in-Err.ensures.bad place (ap Err (one_error c.in-Err.stop (BadLedger place) is)) file told in
    (p.0, p.1, refl, refl)

pub returns-clause-infeasible : goal.returns-clause-infeasible
returns-clause-infeasible g c is =
    let p = c.in-Err.ensures.infeasible (ap Err (one_error c.in-Err.stop Infeasible is)) in
    (refl, refl, p.0, p.1, p.2)
