use Rattle.std.proofs.Common.{arith, ◌≡◌, ◌≤◌, ◌+◌, ◌∙◌, sym, length, take, drop, length-take-le, length-drop}
use Rattle.job_ledger.specs.Records.{header}
use Rattle.job_ledger.proofs.FrameLemmas.{no_frame_header, no_frame_past, some_frame}
use Rattle.job_ledger.proofs.entry.behind_gate.Goals as goal

pub returns-then-len-size-clause-entry : goal.returns-then-len-size-clause-entry
returns-then-len-size-clause-entry c behind is size =
    no_frame_past behind c.in-Some.len c.in-Some.ensures.1 (sym is ∙ c.in-Some.ensures.0) (omega (arith, c.if-len-size.true, size))

pub returns-else-len-size-clause-entry : goal.returns-else-len-size-clause-entry
returns-else-len-size-clause-entry c behind is size =
    let n = c.in-Some.len in
    let here : take 14 behind ≡ header n = sym is ∙ c.in-Some.ensures.0 in
    let room : 15 + n ≤ length behind = omega (arith, c.if-len-size.false, size) in
    let long : length (take n (drop 14 behind)) ≡ n = length-take-le n (drop 14 behind) (omega (arith, room, length-drop 14 behind)) in
    (take n (drop 14 behind), drop (14 + n) behind, some_frame behind n here (omega (arith, room)), omega (arith, room, length-drop (14 + n) behind), sym long, omega (arith, long, c.in-Some.ensures.1))

pub returns-in-None-clause-entry : goal.returns-in-None-clause-entry
returns-in-None-clause-entry c behind is size = no_frame_header behind (λ n small h. c.in-None.ensures n small (is ∙ h))
