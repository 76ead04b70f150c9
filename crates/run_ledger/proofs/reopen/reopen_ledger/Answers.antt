use Rattle.std.proofs.Common.{◌≡◌, ◌∙◌, ap, Err}
use Rattle.job_ledger.specs.declared.stop.LedgerStop.TheVariants.{BadLedger}
use Rattle.run_ledger.proofs.reopen.reopen_ledger.Goals as goal

pub returns-in-Err-BadLedger-clause-bad : goal.returns-in-Err-BadLedger-clause-bad
returns-in-Err-BadLedger-clause-bad g c place is =
    let q : c.in-Err-BadLedger.place ≡ place = cc in
    c.in-Err-BadLedger.ensures.bad place (ap (λ e. Err e) (c.in-Err-BadLedger.field-0-is ∙ ap BadLedger q))
