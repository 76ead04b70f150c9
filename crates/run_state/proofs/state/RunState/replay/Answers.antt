use Rattle.std.proofs.Common.{arith, ◌≡◌, ◌∙◌, ap, subst, ℕ, ◌+◌, List, [], ◌∷◌, ◌++◌, take, Err}
use Rattle.run_state.specs.Payloads.{IsBadBehind, IsBrokenPayload}
use Rattle.run_state.specs.Runs.{IsRunOf}
use Rattle.run_state.proofs.FollowLemmas.{broken-in, run-more}
use Rattle.run_state.proofs.state.RunState.replay.Goals as goal

pub returns-in-Err-Bad-clause-bad : goal.returns-in-Err-Bad-clause-bad
returns-in-Err-Bad-clause-bad c place e =
    let q : 1 ≡ place = cc in
    subst (λ (n : ℕ). IsBrokenPayload n c.args.payloads.now) q
    (broken-in c.args.payloads.now 0 c.index-payloads-0.result c.requires
    (subst (IsBadBehind []) (c.as_slice.ensures ∙ c.index-payloads-0.is) (c.in-Err-Bad.ensures.bad (ap Err c.in-Err-Bad.field-0-is))))

pub returns-in-Err-Bad-follow-clause-bad : goal.returns-in-Err-Bad-follow-clause-bad
returns-in-Err-Bad-follow-clause-bad c place e =
    let q : c.loop-i.i + 1 ≡ place = cc in
    subst (λ (n : ℕ). IsBrokenPayload n c.args.payloads.now) q
    (broken-in c.args.payloads.now c.loop-i.i c.index-payloads-i.result (omega arith)
    (subst (IsBadBehind (take c.loop-i.i c.args.payloads.now)) (c.as_slice-in-loop-i.ensures ∙ c.index-payloads-i.is)
    (c.in-Err-Bad-follow.ensures.bad (take c.loop-i.i c.args.payloads.now) c.loop-i.invariant (ap Err c.in-Err-Bad-follow.field-0-is))))

pub loop-i-preserved : goal.loop-i-preserved
loop-i-preserved c =
    run-more c.args.payloads.now c.loop-i.i c.index-payloads-i.result c.follow.new.self (omega arith)
    (subst (λ (p : List ℕ). IsRunOf c.follow.new.self (take c.loop-i.i c.args.payloads.now ++ p ∷ [])) (c.as_slice-in-loop-i.ensures ∙ c.index-payloads-i.is)
    (c.in-Ok-follow.ensures.ok (take c.loop-i.i c.args.payloads.now) c.loop-i.invariant))

pub loop-i-init : goal.loop-i-init
loop-i-init c =
    run-more c.args.payloads.now 0 c.index-payloads-0.result c.in-Ok.run' c.requires
    (subst (λ (p : List ℕ). IsRunOf c.in-Ok.run' (p ∷ [])) (c.as_slice.ensures ∙ c.index-payloads-0.is) c.in-Ok.ensures.ok)
