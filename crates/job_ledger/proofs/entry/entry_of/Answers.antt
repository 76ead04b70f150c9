use Rattle.std.proofs.Common.{rules, arith, ◌≡◌, ◌-◌, ◌∙◌, ◌∷◌, ℕ, ap, drop, get_or, length, take, drop-cons, length-drop, take_all}
use Rattle.job_ledger.proofs.EntryLemmas.{open_entry}
use Rattle.job_ledger.proofs.entry.entry_of.Goals as goal

pub returns-else-gate-clause-entry : goal.returns-else-gate-clause-entry
returns-else-gate-clause-entry c text is some size =
    let gate : get_or c.args.head.now 0 0 ≡ 245 = search rules in
    let behind = drop 1 text in
    let cons : text ≡ get_or text 0 0 ∷ behind = drop-cons text 0 0 some in
    let first : get_or text 0 0 ≡ 245 = search rules in
    let all : text ≡ 245 ∷ behind = cons ∙ ap (λ (g : ℕ). g ∷ behind) first in
    let rest : drop 1 c.args.head.now ≡ take 14 behind = ap (drop 1) (is ∙ ap (take 15) all) in
    let header : take (length c.args.head.now - 1) (drop 1 c.args.head.now) ≡ take 14 behind = take_all (length c.args.head.now - 1) (drop 1 c.args.head.now) (omega (arith, length-drop 1 c.args.head.now)) ∙ rest in
    open_entry c.behind_gate.result text behind all (c.behind_gate.ensures.entry behind header (omega (arith, size, ap length all)))
