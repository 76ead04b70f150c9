use Rattle.std.proofs.Common.{◌≡◌, ◌∙◌, sym, subst, arith, refl, ◌<◌, length, get_or, ℕ, List}
use Rattle.std.specs.List.{Contains}
use Rattle.std.proofs.lemmas.List.{get_or_default}
use Rattle.poly_model.specs.Keys.{IsAscending}
use Rattle.lex_pivot.specs.Above.{EntersOn}
use Rattle.lex_pivot.proofs.EarlierLemmas.{at_each}
use Rattle.lex_pivot.proofs.EnterLemmas.{least_on}
use Rattle.lex_pivot.proofs.parents.first_on.Goals as goal

pub returns-then-enters_on : goal.returns-then-enters_on
returns-then-enters_on c =
    let l : c.columns.col-index < length c.cobasis-labels.result.now =
    (let t = c.columns-test.true in let b = c.columns.auto.col-index-end in omega arith) in
    let v = c.cobasis-labels.ensures.value in
    let e : c.col-item.result ≡ get_or c.cobasis-labels.result.now c.columns.col-index 0 =
    c.col-item.is ∙ get_or_default c.cobasis-labels.result.now c.columns.col-index c.col-item.result 0 l in
    least_on c.args.dict.now c.args.order.now c.args.inside c.columns.col-index c.col-item.result
    (subst IsAscending v c.cobasis-labels.ensures.ascending)
    (subst (λ (ks : List ℕ). c.columns.col-index < length ks) v l)
    (subst (λ (ks : List ℕ). c.col-item.result ≡ get_or ks c.columns.col-index 0) v e)
    (λ j m x. c.columns.invariant j m
    (subst (λ (ks : List ℕ). EntersOn c.args.dict.now c.args.order.now c.args.inside (get_or ks j 0)) (sym v) x))
    (c.if-enters_on.ensures.0 refl)

pub returns : goal.returns
returns c k m x =
    at_each (λ (q : ℕ). EntersOn c.args.dict.now c.args.order.now c.args.inside q → ⊥) c.cobasis-labels.result.now
    c.columns.col-index (let t = c.columns-test.false in let b = c.columns.auto.col-index-end in omega arith)
    c.columns.invariant k (subst (λ (ks : List ℕ). Contains ks k) (sym c.cobasis-labels.ensures.value) m) x
