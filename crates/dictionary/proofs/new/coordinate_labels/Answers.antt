use Rattle.std.specs.List.{range_with_len}
use Rattle.std.proofs.lemmas.List.FromFn.{map-range_with_len_more}
use Rattle.poly_model.specs.Labels.{coordinate_label}
use Rattle.std.proofs.Common.{map, ℕ, List, subst, ◌-◌, ◌++◌, ◌∷◌, [], ap, sym, ◌∙◌, arith}
use Rattle.poly_model.specs.Keys.{IsKey}
use Rattle.dictionary.proofs.Beginnings.{coordinates_are_key}
use Rattle.dictionary.proofs.new.coordinate_labels.Goals as goal

pub loop-j-preserved : goal.loop-j-preserved
loop-j-preserved c =
    let first = c.if-constants.first in
    let j = c.loop-j.j in
    let h = c.loop-j.invariant in
    let l = c.loop-j-test.true in
    record {
      labels = c.in_ok-push.ensures.items
          ∙ ap (λ k. c.loop-j.labels.items ++ k ∷ []) c.coordinate.ensures
          ∙ ap (λ ks. ks ++ coordinate_label j ∷ []) h.labels
          ∙ sym (map-range_with_len_more coordinate_label first (j - first) j (omega (arith, h.from_first)))
          ∙ ap (λ n. map coordinate_label (range_with_len first n)) (omega (arith, h.from_first));
      count = let g = c.in_ok-push.ensures.len in let k = h.count in omega (arith, g, k);
      from_first = omega (arith, h.from_first);
      to_end = omega (arith, l);
    }

pub returns-clause-key : goal.returns-clause-key
returns-clause-key c =
    let h = c.loop-j.invariant in
    subst (λ (ks : List ℕ). IsKey ks) (sym h.labels)
    (coordinates_are_key c.if-constants.first c.loop-j.j
    (let l = h.to_end in let n = c.requires.narrow in omega (arith, l, n)))
