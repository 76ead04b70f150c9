use Rattle.std.proofs.Common.{◌<◌, List, ℕ, arith, sym, subst, ◌∙◌, take_all}
use Rattle.std.specs.List.{Contains}
use Rattle.linearity.proofs.LeastLabels.{stands_before}
use Rattle.linearity.proofs.eliminate.least_column.Goals as goal

pub returns-then-is_column-clause-some : goal.returns-then-is_column-clause-some
returns-then-is_column-clause-some c =
    let items = c.labels-label-items.result.now in
    let same = c.labels-label-items.ensures.value ∙ c.key-key.ensures in
    let can = c.is_column.ensures.pivots c.if-is_column.true in
    record {
      inside = can.inside;
      coordinate = c.is_column.ensures.coordinate c.if-is_column.true;
      nonzero = can.nonzero;
      least = λ j m high less.
          c.labels.invariant.none j
          (stands_before items c.labels.label-index j _ c.labels-label-items.ensures.key.ascending c.labels-test.true
          (subst (λ (ks : List ℕ). Contains ks j) (sym same) m)
          (subst (λ k. j < k) c.label-item.is less))
          high;
    }

pub returns-clause-none : goal.returns-clause-none
returns-clause-none c n k m =
    let items = c.labels-label-items.result.now in
    let same = c.labels-label-items.ensures.value ∙ c.key-key.ensures in
    let whole = take_all c.labels.label-index items (let l = c.labels-test.false in omega arith) in
    c.labels.invariant.none k (subst (λ (ks : List ℕ). Contains ks k) (sym whole)
    (subst (λ (ks : List ℕ). Contains ks k) (sym same) m))
