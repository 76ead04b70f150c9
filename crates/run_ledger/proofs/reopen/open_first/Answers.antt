use Rattle.std.proofs.Common.{◌≡◌, ◌∷◌, [], List, ℕ, ap, subst, Err}
use Rattle.run_state.specs.Payloads.{IsBadBehind, IsBrokenPayload}
use Rattle.run_state.specs.Runs.{IsRunOf}
use Rattle.run_ledger.proofs.LedgerReads.{broken_behind, run_of_one}
use Rattle.run_ledger.proofs.reopen.open_first.Goals as goal

pub returns-in-Ok-clause-ok : goal.returns-in-Ok-clause-ok
returns-in-Ok-clause-ok g c =
    let d = g.D.Disk in
    run_of_one c.args.ledger.now (d.seen c.args.disk.now) (d.images c.args.disk.now) c.in-Ok.run'
    c.in_ok-payload.payload
    (subst (λ (p : List ℕ). IsRunOf c.in-Ok.run' (p ∷ [])) c.as_slice.ensures c.in-Ok.ensures.ok)
    c.in_ok-payload.ensures.bytes

pub returns-in-Err-Bad-clause-bad : goal.returns-in-Err-Bad-clause-bad
returns-in-Err-Bad-clause-bad g c place payloads e at =
    let q : 1 ≡ place = cc in
    subst (λ (n : ℕ). IsBrokenPayload n payloads) q
    (broken_behind payloads 0 c.in_ok-payload.payload (c.in_ok-payload.ensures.bytes payloads at)
    (subst (λ (p : List ℕ). IsBadBehind [] p) c.as_slice.ensures
    (c.in-Err-Bad.ensures.bad (ap Err c.in-Err-Bad.field-0-is))))
