use Rattle.std.proofs.Common.{◌⊎◌, ◌∙◌, ◌∷◌, [], List, ℕ, length, refl, subst}
use Rattle.disk_core.specs.Moments.{LeavesOnly}
use Rattle.job_ledger.specs.Ledgers.{IsLedgerAt, IsPastLimit, new_ledger}
use Rattle.job_ledger.specs.declared.stop.LedgerStop.TheVariants.{DiskFault, LedgerLimit}
use Rattle.job_ledger.specs.Records.{HasNoRun, Records}
use Rattle.job_text.specs.FirstPayloads.{first_payload}
use Rattle.run_state.proofs.FollowLemmas.{run-first}
use Rattle.run_ledger.specs.Recorded.{search_in}
use Rattle.run_ledger.proofs.Errors.{came, caused_again, handed_back, on_error, one_error}
use Rattle.run_ledger.proofs.begin.begin_run.Goals as goal

pub returns-in_err-ledger-clause-moments : goal.returns-in_err-ledger-clause-moments
returns-in_err-ledger-clause-moments g c file told =
    let d = g.D.Disk in
    subst (λ (p : List ℕ). LeavesOnly d.moment d.since c.args.disk.now c.create.new.disk
    (λ e. d.images c.args.disk.now e ⊎ (HasNoRun e ⊎ Records (p ∷ []) e)))
    (c.as_slice.ensures ∙ c.in_ok-payload.ensures.payload) (c.in_err-ledger.ensures.moments file told)

pub returns-clause-moments : goal.returns-clause-moments
returns-clause-moments g c file told =
    let d = g.D.Disk in
    subst (λ (p : List ℕ). LeavesOnly d.moment d.since c.args.disk.now c.create.new.disk
    (λ e. d.images c.args.disk.now e ⊎ (HasNoRun e ⊎ Records (p ∷ []) e)))
    (c.as_slice.ensures ∙ c.in_ok-payload.ensures.payload) (c.in_ok-ledger.ensures.moments file told)

pub returns-clause-kept : goal.returns-clause-kept
returns-clause-kept g c file told =
    let d = g.D.Disk in
    let new = c.create.new.disk in
    subst (λ (p : List ℕ). IsLedgerAt c.in_ok-ledger.ledger (p ∷ []) (d.seen new) (d.images new))
    (c.as_slice.ensures ∙ c.in_ok-payload.ensures.payload) (c.in_ok-ledger.ensures.kept file told)

pub returns-clause-is_run : goal.returns-clause-is_run
returns-clause-is_run g c root file =
    run-first (first_payload (search_in c.args.first)) (search_in c.args.first) c.in_ok-payload.run'
    (record { root = root; file = file; is_text = refl }) c.in_ok-payload.ensures.run

pub returns-in_err-ledger-clause-past : goal.returns-in_err-ledger-clause-past
returns-in_err-ledger-clause-past g c need most e =
    let r = c.from_residual-in_err-ledger in
    let past = c.in_err-ledger.ensures.past need most
    (came r.result c.in_err-ledger.field-0.0 (LedgerLimit need most) r.ensures.1 e) in (
      subst (λ (p : List ℕ). IsPastLimit (new_ledger c.args.limit) (length p) need most)
          (c.as_slice.ensures ∙ c.in_ok-payload.ensures.payload) past.0,
      past.1,
    )

pub returns-in_err-ledger-clause-unwritten : goal.returns-in_err-ledger-clause-unwritten
returns-in_err-ledger-clause-unwritten g c other =
    let r = c.from_residual-in_err-ledger in
    let stop = c.in_err-ledger.field-0.0 in
    on_error r.result _
    (c.in_err-ledger.ensures.unwritten
    (λ f. other (handed_back r.result stop DiskFault r.ensures.1 (one_error stop DiskFault f))))

pub returns-in_err-ledger-clause-cause : goal.returns-in_err-ledger-clause-cause
returns-in_err-ledger-clause-cause g c =
    let r = c.from_residual-in_err-ledger in
    caused_again _ _ r.result c.in_err-ledger.field-0.0 r.ensures.1 c.in_err-ledger.ensures.cause
