use Rattle.std.proofs.Common.{List, ℕ, arith, sym, subst, ◌∙◌, take_all}
use Rattle.std.specs.List.{Contains}
use Rattle.plain_enum.proofs.side.column_of.Goals as goal

pub returns-clause-none : goal.returns-clause-none
returns-clause-none c n k m =
    let items = c.labels-label-items.result.now in
    let same = c.labels-label-items.ensures.value ∙ c.key-key.ensures in
    let whole = take_all c.labels.label-index items (let l = c.labels-test.false in omega arith) in
    c.labels.invariant.none n k (subst (λ (ks : List ℕ). Contains ks k) (sym whole)
    (subst (λ (ks : List ℕ). Contains ks k) (sym same) m))
