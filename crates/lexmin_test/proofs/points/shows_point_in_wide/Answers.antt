use Rattle.std.proofs.Common.{◌≡◌, refl, ap, subst, arith, length, ℕ, List}
use Rattle.dictionary.specs.Cobases.{AreOutside}
use Rattle.lex_pivot.proofs.EarlierLemmas.{row_only, at_each}
use Rattle.lexmin_test.specs.Settled.{RowShowsPoint}
use Rattle.lexmin_test.proofs.points.shows_point_in_wide.Goals as goal

pub returns : goal.returns
returns c =
    let n : length c.rows-place-end.result.now ≡ length c.args.dict.now.rows = ap length c.rows-place-end.ensures.value in
    let l = c.rows-test.false in
    let all = subst (λ (ks : List ℕ). AreOutside c.args.dict.now ks) c.rows-place-end.ensures.value
    c.rows-place-end.ensures.outside in (
      (λ t i o. at_each (λ (k : ℕ). RowShowsPoint c.args.dict.now c.args.order.now k) c.args.dict.now.rows c.rows.place
          (omega arith) c.rows.invariant i (all.there i (row_only c.args.dict.now.labels i o.row).0 o.outside) o),
      (λ h. refl),
    )
