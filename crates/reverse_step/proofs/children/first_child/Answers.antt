use Rattle.std.proofs.Common.{◌≡◌, ◌∙◌, ap, arith, ◌<◌, length, get_or, ℕ, List}
use Rattle.std.proofs.lemmas.List.{get_or_default}
use Rattle.reverse_step.proofs.ChildLemmas.{none_more, none_to_end}
use Rattle.reverse_step.proofs.children.first_child.Goals as goal

pub columns-preserved : goal.columns-preserved
columns-preserved c =
    let l : c.columns.place < length c.cobasis-labels.result.now =
    (let t = c.columns-test.true in let b = c.columns.auto.place-end in omega arith) in
    let e : c.index-labels-place.result ≡ get_or c.args.dict.now.key c.columns.place 0 =
    c.index-labels-place.is ∙ get_or_default c.cobasis-labels.result.now c.columns.place c.index-labels-place.result 0 l
    ∙ ap (λ (ks : List ℕ). get_or ks c.columns.place 0) c.cobasis-labels.ensures.value in
    none_more c.args.order.now c.args.dict.now c.args.at c.columns.place c.index-labels-place.result e c.in_default.ensures
    c.columns.invariant

pub returns : goal.returns
returns c =
    none_to_end c.args.order.now c.args.dict.now c.args.at c.columns.place
    (let e = ap length c.cobasis-labels.ensures.value in let t = c.columns-test.false in
    let b = c.columns.auto.place-end in omega (arith, e))
    c.columns.invariant
