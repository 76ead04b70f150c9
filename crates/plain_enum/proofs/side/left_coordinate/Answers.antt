use Rattle.std.proofs.Common.{◌≡◌, ◌+◌, get_or, true, false, IsNone, IsFalse, IfSome, sym, subst, ◌∙◌, arith}
use Rattle.std.proofs.lemmas.Option.{IfSome_then}
use Rattle.std.proofs.lemmas.Grind.{get_or_default_zero}
use Rattle.poly_model.specs.Labels.{IsCoordinate, coordinate_index}
use Rattle.poly_model.specs.Spaces.{is_member}
use Rattle.plain_enum.proofs.LeftCoordinates.{IsLastBefore, is_last, stays_last, still_none, is_left_coordinate, leaves_none}
use Rattle.plain_enum.proofs.side.left_coordinate.Goals.{then-is_kept, else-is_kept}
use Rattle.plain_enum.proofs.side.left_coordinate.Goals as goal

pub labels-preserved : goal.labels-preserved
labels-preserved c =
    let free = c.args.free.now in
    let items = c.labels-label-items.result.now in
    let i = c.labels.label-index in
    let label : c.label-item.result ≡ get_or items i 0 = c.label-item.is ∙ get_or_default_zero items i _ c.labels-test.true in
    let other : IsFalse c.is_kept.result → IsCoordinate (get_or items i 0) → is_member (coordinate_index (get_or items i 0)) free ≡ false → ⊥ = λ w. subst (λ k. IsCoordinate k → is_member (coordinate_index k) free ≡ false → ⊥) label
    (c.is_kept.ensures.other w) in
    elim c.if-is_kept.branch [
      | then-is_kept w ↦ record {
        some = subst (λ found. IfSome found (λ k. IsLastBefore free items (i + 1) k)) (sym w.found-is)
            (subst (λ k. IsLastBefore free items (i + 1) k) (sym label)
            (is_last free items c.labels-label-items.ensures.key.ascending i c.labels-test.true
            (subst (λ k. IsCoordinate k) label (c.is_kept.ensures.coordinate w.if-is_kept.true))
            (subst (λ k. is_member (coordinate_index k) free ≡ false) label (c.is_kept.ensures.kept w.if-is_kept.true))));
        none = λ n. let none : true ≡ false = subst IsNone w.found-is n in absurd (cc);
      }
      | else-is_kept w ↦ record {
        some = subst (λ found. IfSome found (λ k. IsLastBefore free items (i + 1) k)) (sym w.found-is)
            (IfSome_then c.labels.found c.labels.invariant.some
            (λ k h. stays_last free items i (other w.if-is_kept.false) k h));
        none = λ n. still_none free items i (other w.if-is_kept.false)
            (c.labels.invariant.none (subst IsNone w.found-is n));
      }
    ]

pub returns-clause-some : goal.returns-clause-some
returns-clause-some c =
    IfSome_then c.labels.found c.labels.invariant.some
    (λ k h. is_left_coordinate c.args.dict.now c.args.free.now c.labels-label-items.result.now
    (c.labels-label-items.ensures.value ∙ c.key-key.ensures) c.labels.label-index
    (let l = c.labels-test.false in omega arith) k h)

pub returns-clause-none : goal.returns-clause-none
returns-clause-none c n =
    leaves_none c.args.dict.now c.args.free.now c.labels-label-items.result.now
    (c.labels-label-items.ensures.value ∙ c.key-key.ensures) c.labels.label-index
    (let l = c.labels-test.false in omega arith) (c.labels.invariant.none n)
