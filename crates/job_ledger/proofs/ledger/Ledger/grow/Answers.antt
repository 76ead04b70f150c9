use Rattle.std.proofs.Common.{rules, ◌≡◌, ◌+◌, ◌++◌, ◌∷◌, [], List, refl, subst, sym}
use Rattle.job_ledger.specs.Spans.{ArePlaced}
use Rattle.job_ledger.specs.declared.span.Span.{Span}
use Rattle.job_ledger.proofs.WalkLemmas.{placed_more}
use Rattle.job_ledger.proofs.ledger.Ledger.grow.Goals as goal

pub invariant_of-self-2 : goal.invariant_of-self-2
invariant_of-self-2 c =
    let ins = c.self.inside in
    let s : Span = record { at = ins.end + 15; len = c.args.len } in
    let pushed : c.push.new.self.items ≡ ins.spans.items ++ s ∷ [] = search rules in
    (c.self.invariant.0, subst (λ (l : List Span). ArePlaced l (ins.end + 15 + c.args.len)) (sym pushed) (placed_more ins.spans.items ins.end (ins.end + 15 + c.args.len) s c.self.invariant.1 refl refl), search rules)
