use Rattle.std.proofs.Common.{◌≡◌, ◌+◌, List, ℕ, ap, subst, take, Err}
use Rattle.run_state.specs.Payloads.{IsBadBehind, IsBrokenPayload}
use Rattle.run_ledger.proofs.LedgerReads.{broken_behind}
use Rattle.run_ledger.proofs.reopen.follow_record.Goals as goal

pub returns-in-Err-Bad-clause-bad : goal.returns-in-Err-Bad-clause-bad
returns-in-Err-Bad-clause-bad g c place payloads e at run =
    let q : c.args.i + 1 ≡ place = cc in
    subst (λ (n : ℕ). IsBrokenPayload n payloads) q
    (broken_behind payloads c.args.i c.in_ok-payload.payload (c.in_ok-payload.ensures.bytes payloads at)
    (subst (λ (p : List ℕ). IsBadBehind (take c.args.i payloads) p) c.as_slice.ensures
    (c.in-Err-Bad.ensures.bad (take c.args.i payloads) run (ap Err c.in-Err-Bad.field-0-is))))
