use Rattle.std.proofs.Common.{◌≡◌, ◌∙◌, List, ℕ, inl, inr, sym, subst}
use Rattle.disk_core.proofs.Moments.{joined}
use Rattle.job_ledger.specs.Ledgers.{IsLedgerAt}
use Rattle.job_ledger.specs.Records.{Records}
use Rattle.run_ledger.specs.declared.stops.ReopenStop.TheVariants.{BadLedger}
use Rattle.run_ledger.proofs.Errors.{came}
use Rattle.run_ledger.proofs.LedgerReads.{all_of_run, stays}
use Rattle.run_ledger.proofs.reopen.reopen_run.Goals as goal

pub returns-in_err-ledger-clause-bad : goal.returns-in_err-ledger-clause-bad
returns-in_err-ledger-clause-bad g c place e file told =
    let r = c.from_residual in
    let bad = c.in_err-ledger.ensures.bad place
    (came r.result c.in_err-ledger.field-0.0 (BadLedger place) r.ensures.1 e) file told in
    (inl bad.0, bad.1)

pub returns-in_err-run-clause-bad : goal.returns-in_err-run-clause-bad
returns-in_err-run-clause-bad g c place e file told =
    let (payloads, some, has, now, at) = c.in_ok-ledger.ensures.records file told in
    let r = c.from_residual-in_err-run in
    let broken = c.in_err-run.ensures.bad place payloads
    (came r.result c.in_err-run.field-0.0 (BadLedger place) r.ensures.1 e) at in
    (inr (payloads, record { has = has; broken = broken }), c.in_err-run.ensures.quiet.same ∙ now)

pub returns-clause-quiet : goal.returns-clause-quiet
returns-clause-quiet g c =
    let d = g.D.Disk in
    let first = c.in_ok-ledger.ensures.quiet in
    joined d.moment d.since c.args.disk.now c.reopen_ledger.new.disk c.read_run.new.disk (d.images c.args.disk.now)
    (d.images c.reopen_ledger.new.disk) (d.images c.args.disk.now) first c.in_ok-run.ensures.quiet.leaves
    (λ e now. now)
    (λ e now. first.each e
    (g.met.D.Disk.counts_now c.reopen_ledger.new.disk (d.moment c.args.disk.now) e first.later now))

pub returns-clause-run : goal.returns-clause-run
returns-clause-run g c =
    let d = g.D.Disk in
    let mid = c.reopen_ledger.new.disk in
    let ledger = c.in_ok-ledger.ledger in
    let h = c.in_ok-run.ensures.ok in (
      h.payloads,
      h.is_run,
      sym h.size,
      λ file told.
          let (payloads, some, has, now, at) = c.in_ok-ledger.ensures.records file told in
          let all : payloads ≡ h.payloads =
          sym (all_of_run ledger (d.seen mid) (d.images mid) c.in_ok-run.run' payloads h at) in (
            subst (λ (ps : List (List ℕ)). Records ps file) all has,
            c.in_ok-run.ensures.quiet.same ∙ now,
            stays d mid c.read_run.new.disk c.in_ok-run.ensures.quiet ledger h.payloads
                (subst (λ (ps : List (List ℕ)). IsLedgerAt ledger ps (d.seen mid) (d.images mid)) all at),
          ),
    )
