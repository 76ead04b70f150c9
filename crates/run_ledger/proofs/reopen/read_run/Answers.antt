use Rattle.std.proofs.Common.{◌≡◌, ◌∙◌, List, ℕ, Err, length, subst, arith}
use Rattle.poly_io.specs.Causes.{RisesAt}
use Rattle.disk_core.proofs.Quiets.{quiet_then}
use Rattle.run_state.specs.Runs.{IsRunOf}
use Rattle.run_ledger.specs.Recorded.{IsRunOfFirst}
use Rattle.run_ledger.specs.declared.stops.ReopenStop.TheVariants.{BadLedger, DiskFault}
use Rattle.run_ledger.proofs.Errors.{came, none_rose, rises_again}
use Rattle.run_ledger.proofs.LedgerReads.{run_of_more, stays}
use Rattle.run_ledger.proofs.reopen.read_run.Goals as goal

pub loop-i-preserved : goal.loop-i-preserved
loop-i-preserved g c =
    let d = g.D.Disk in
    let old = c.args.disk.now in
    let x = c.loop-i.invariant in
    let ledger = c.args.ledger.now in
    let h = c.in_ok-follow_record.ensures.ok x.run.payloads x.run.is_run in
    record {
      within = omega (arith, c.loop-i-test.true, c.count-i-end.ensures);
      quiet = quiet_then d.seen d.images d.moment d.since g.met.D.Disk.only_now old c.loop-i.disk
          c.follow_record.new.disk x.quiet c.in_ok-follow_record.ensures.quiet;
      same = none_rose DiskFault _ _ _ c.in_ok-follow_record.ensures.cause ∙ x.same;
      run = run_of_more ledger (d.seen old) (d.images old) c.loop-i.run c.follow_record.new.run c.loop-i.i h.0 x.run h.1
          (λ all at. h.2 all (stays d old c.loop-i.disk x.quiet ledger all at));
    }

pub returns-in_err-follow_record-clause-bad : goal.returns-in_err-follow_record-clause-bad
returns-in_err-follow_record-clause-bad g c place payloads e at =
    let x = c.loop-i.invariant in
    let r = c.from_residual-in_err-follow_record in
    c.in_err-follow_record.ensures.bad place payloads
    (came r.result c.in_err-follow_record.field-0.0 (BadLedger place) r.ensures.1 e)
    (stays g.D.Disk c.args.disk.now c.loop-i.disk x.quiet c.args.ledger.now payloads at)
    (subst (λ (ps : List (List ℕ)). IsRunOf c.loop-i.run ps) (x.run.are_first payloads at) x.run.is_run)

pub returns-in_err-follow_record-clause-cause : goal.returns-in_err-follow_record-clause-cause
returns-in_err-follow_record-clause-cause g c =
    let r = c.from_residual-in_err-follow_record in
    let stop = c.in_err-follow_record.field-0.0 in
    let now = g.D.Disk.faults c.follow_record.new.disk in
    rises_again DiskFault _ _ r.result stop r.ensures.1
    (subst (λ (n : ℕ). RisesAt {T = Unit {0}} DiskFault n now (Err stop)) c.loop-i.invariant.same
    c.in_err-follow_record.ensures.cause)

pub returns-clause-ok : goal.returns-clause-ok
returns-clause-ok g c =
    let d = g.D.Disk in
    let old = c.args.disk.now in
    let ledger = c.args.ledger.now in
    let within = c.loop-i.invariant.within in
    let all : c.loop-i.i ≡ length ledger.sizes = omega (arith, c.loop-i-test.false, c.count-i-end.ensures, within) in
    subst (λ n. IsRunOfFirst c.loop-i.run n ledger (d.seen old) (d.images old)) all c.loop-i.invariant.run
