use Rattle.std.proofs.Common.{◌≡◌, ◌∙◌, sym, true≢false, get_or, refl, ap, subst, arith, length, List, ℕ}
use Rattle.std.specs.List.{Contains}
use Rattle.std.proofs.lemmas.List.Elements.{Contains-get_or}
use Rattle.dictionary_laws.specs.Keys.{HaveSameLabels}
use Rattle.lexmin_test.specs.Settled.{IsZeroIfEarlier}
use Rattle.lex_pivot.proofs.EarlierLemmas.{at_each}
use Rattle.lexmin_test.proofs.word_points.is_zero_before.Goals as goal

pub returns : goal.returns
returns c =
    let d = c.args.table.now.dict.now in
    let columns = c.columns-j-end.ensures in
    let n : length c.columns-j-end.result.now ≡ length d.columns = ap length columns.value in
    let l = c.columns-test.false in (
      (λ _ j m. at_each (λ (k : ℕ). IsZeroIfEarlier d c.args.table.now.order.now c.args.row k) d.columns c.columns.j
          (omega arith) c.columns.invariant j
          (subst (λ (ks : List ℕ). Contains ks j) columns.value (columns.key.there j m))),
      (λ _. refl),
    )

pub returns-then-not-is_zero_if_earlier : goal.returns-then-not-is_zero_if_earlier
returns-then-not-is_zero_if_earlier c =
    let d = c.args.table.now.dict.now in
    let columns = c.columns-j-end.ensures in
    let n : length c.columns-j-end.result.now ≡ length d.columns = ap length columns.value in
    let t = c.columns-test.true in
    let same = subst (λ (ks : List ℕ). HaveSameLabels d.key ks) columns.value columns.key in (
      (λ t. absurd (true≢false (sym t))),
      (λ h. absurd (true≢false (sym (c.is_zero_if_earlier.ensures.1 (h (get_or d.columns c.columns.j 0)
          (same.back (get_or d.columns c.columns.j 0) (Contains-get_or d.columns c.columns.j 0 (omega (arith, t, n))))))
          ∙ c.if-not-is_zero_if_earlier.true))),
    )
