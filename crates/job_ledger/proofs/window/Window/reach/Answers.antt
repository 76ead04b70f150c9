use Rattle.std.proofs.Common.{◌≡◌, ◌∙◌, ℕ, List, ap, length, refl, take, drop, sym}
use Rattle.job_ledger.proofs.WindowLemmas.{front_is, head_first, head_within}
use Rattle.job_ledger.proofs.window.Window.reach.Goals as goal

pub returns-then-has_head-clause-head : goal.returns-then-has_head-clause-head
returns-then-has_head-clause-head g c f told size held =
    let w = c.args.self.now in
    let (low, high) = c.if-has_head.ensures refl in
    (held, head_within w.bytes.items f w.from c.args.at held low high)

pub returns-clause-head : goal.returns-clause-head
returns-clause-head g c f told size held =
    let w = c.fill.new.self in
    let block : w.bytes.items ≡ take 65536 (drop c.args.at f) = c.in_ok-fill.ensures.block f told size in
    let from : w.from ≡ c.args.at = c.in_ok-fill.ensures.from in
    let front : take (length w.bytes.items) (drop c.args.at f) ≡ take (length w.bytes.items) (drop w.from f) = ap (λ k. take (length w.bytes.items) (drop k f)) (sym from) in
    (block ∙ front_is (drop c.args.at f) 65536 ∙ ap (λ (l : List ℕ). take (length l) (drop c.args.at f)) (sym block) ∙ front, head_first w.bytes.items f w.from c.args.at block from)
