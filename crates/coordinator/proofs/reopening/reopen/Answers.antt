use Rattle.std.proofs.Common.{◌≡◌, ap, ◌∙◌, sym, subst, Err}
use Rattle.poly_model.specs.Due.{IsDue, IsAskedBefore}
use Rattle.poly_model.specs.Equations.{AreConsistent}
use Rattle.work_core.specs.Searches.{Search}
use Rattle.job_ledger.specs.Ledgers.{IsLedgerAt, Known}
use Rattle.run_ledger.specs.declared.stops.ReopenStop.TheVariants.{BadLedger}
use Rattle.coordinator_core.specs.Machine.{start_of}
use Rattle.coordinator.proofs.RunsAgain.{ok_three, recorded, searches_it}
use Rattle.coordinator.proofs.reopening.reopen.Goals as goal

pub returns-in-Ok-clause-kept : goal.returns-in-Ok-clause-kept
returns-in-Ok-clause-kept g c =
    let w = c.in-Ok.ensures.run in
    let d = g.D.Disk in
    ok_three c.go_from.result _ _ _ _ (λ z a b h. (
      recorded (d.seen c.args.disk.now) c.in-Ok.reopened.1 w.0 w.1 (λ f t. (w.3 f t).0),
      b ∙ ap (start_of c.args.terms.now.options) w.1.is_run,
      subst (λ (s : Search). AreConsistent s.polyhedron) (searches_it c.in-Ok.reopened.1 w.0 w.1) h,
      λ f t. subst (λ (k : Known). IsLedgerAt k w.0 (d.seen c.reopen_run.new.disk) (d.images c.reopen_run.new.disk)) (sym a) (w.3 f t).2,
    )) c.go_from.ensures.ledger c.go_from.ensures.core c.go_from.ensures.consistent

pub returns-in-Ok-clause-infeasible : goal.returns-in-Ok-clause-infeasible
returns-in-Ok-clause-infeasible g c is =
    let w = c.in-Ok.ensures.run in (
      recorded (g.D.Disk.seen c.args.disk.now) c.in-Ok.reopened.1 w.0 w.1 (λ f t. (w.3 f t).0),
      λ h. c.go_from.ensures.infeasible is (subst (λ (s : Search). AreConsistent s.polyhedron) (sym (searches_it c.in-Ok.reopened.1 w.0 w.1)) h),
      λ f t. (w.3 f t).1,
    )

pub returns-in-Ok-clause-overflow : goal.returns-in-Ok-clause-overflow
returns-in-Ok-clause-overflow g c o is =
    let w = c.in-Ok.ensures.run in (
      recorded (g.D.Disk.seen c.args.disk.now) c.in-Ok.reopened.1 w.0 w.1 (λ f t. (w.3 f t).0),
      subst (λ (s : Search). IsDue s.polyhedron o (IsAskedBefore s.polyhedron o)) (searches_it c.in-Ok.reopened.1 w.0 w.1) (c.go_from.ensures.overflow o is),
      λ f t. (w.3 f t).1,
    )

pub returns-in-Err-BadLedger-clause-bad : goal.returns-in-Err-BadLedger-clause-bad
returns-in-Err-BadLedger-clause-bad g c place is =
    let stop : c.in-Err-BadLedger.field-0 ≡ BadLedger place = cc in c.in-Err-BadLedger.ensures.bad place (ap Err stop)
