use Rattle.std.proofs.Common.{◌≡◌, ap, subst, refl, arith, length, ℕ, List}
use Rattle.dictionary.specs.Cobases.{AreOutside}
use Rattle.lex_pivot.proofs.RatioLemmas.{none_everywhere}
use Rattle.lex_pivot.proofs.word_ratio.none_leaves_in_words.Goals as goal

pub returns : goal.returns
returns c =
    let d = c.args.table.now.dict.now in
    let n : length c.rows-height.result.now ≡ length d.rows = ap length c.rows-height.ensures.value in
    let t = c.parts-test.false in (
      (λ _. none_everywhere d c.args.col
          (subst (λ (ks : List ℕ). AreOutside d ks) c.rows-height.ensures.value c.rows-height.ensures.outside)
          (λ i l. c.parts.invariant.none i (omega (arith, t, n, l)))),
      (λ _. refl),
    )
