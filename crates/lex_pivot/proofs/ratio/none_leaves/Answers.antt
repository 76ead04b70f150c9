use Rattle.std.proofs.Common.{◌≡◌, ap, subst, length, refl, arith, List, ℕ}
use Rattle.dictionary.specs.Cobases.{AreOutside}
use Rattle.lex_pivot.proofs.RatioLemmas.{none_everywhere}
use Rattle.lex_pivot.proofs.ratio.none_leaves.Goals as goal

pub returns : goal.returns
returns c =
    let n : length c.rows-place-end.result.now ≡ length c.args.dict.now.rows = ap length c.rows-place-end.ensures.value in
    let t = c.rows-test.false in (
      (λ _. none_everywhere c.args.dict.now c.args.col
          (subst (λ (ks : List ℕ). AreOutside c.args.dict.now ks) c.rows-place-end.ensures.value c.rows-place-end.ensures.outside)
          (λ i l. c.rows.invariant i (omega arith))),
      (λ _. refl),
    )
