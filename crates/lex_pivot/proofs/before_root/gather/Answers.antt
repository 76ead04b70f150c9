use Rattle.std.proofs.Common.{◌≡◌, ◌∙◌, sym, ap, arith, ◌++◌, ◌∷◌, [], cond, take, length, get_or, ℕ, List, Bool}
use Rattle.std.specs.List.{filter}
use Rattle.std.proofs.lemmas.List.{take_all}
use Rattle.std.proofs.lemmas.List.Elements.{filter_more}
use Rattle.lex_pivot.specs.Earlier.{is_before_root}
use Rattle.lex_pivot.proofs.before_root.gather.Goals as goal

next : (p : ℕ → Bool) (xs ys : List ℕ) (k q : ℕ) → xs ≡ ys → k ≡ q →
    xs ++ cond (p k) (k ∷ []) [] ≡ ys ++ cond (p q) (q ∷ []) []
next p xs ys k q e f =
    ap (λ zs. zs ++ cond (p k) (k ∷ []) []) e ∙ ap (λ z. ys ++ cond (p z) (z ∷ []) []) f

pub add-len-requires : goal.add-len-requires
add-len-requires c =
    let t = c.labels-test.true in
    let b = c.labels.auto.label-index-end in
    let few = c.labels.invariant.few in
    let room = c.labels.invariant.room in
    let key = ap length c.cobasis-labels.ensures.value in
    let fits = c.requires in
    omega arith

pub labels-preserved : goal.labels-preserved
labels-preserved c =
    let t = c.labels-test.true in
    let b = c.labels.auto.label-index-end in
    record {
      gathered = c.add-len.ensures.gathered
          ∙ next (is_before_root c.args.order.now) (take c.labels.len c.labels.room)
          (filter (is_before_root c.args.order.now) (take c.labels.label-index c.cobasis-labels.result.now))
          c.label-item.result (get_or c.cobasis-labels.result.now c.labels.label-index c.label-item.result)
          c.labels.invariant.gathered c.label-item.is
          ∙ sym (filter_more (is_before_root c.args.order.now) c.cobasis-labels.result.now c.labels.label-index
          c.label-item.result (omega arith));
      few = let l = c.add-len.ensures.within in let few = c.labels.invariant.few in omega arith;
      room = c.add-len.ensures.room ∙ c.labels.invariant.room;
    }

pub returns-clause-gathered : goal.returns-clause-gathered
returns-clause-gathered c =
    let t = c.labels-test.false in
    c.labels.invariant.gathered
    ∙ ap (filter (is_before_root c.args.order.now))
    (take_all c.labels.label-index c.cobasis-labels.result.now (omega arith) ∙ c.cobasis-labels.ensures.value)
