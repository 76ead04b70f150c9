use Rattle.std.proofs.Common.{◌≡◌, refl, ap, subst, arith, length, List, ℕ}
use Rattle.std.specs.List.{Contains}
use Rattle.lexmin_test.specs.Zeros.{IsOtherPositive}
use Rattle.lex_pivot.proofs.EarlierLemmas.{at_each}
use Rattle.lexmin_test.proofs.word_rays.are_others_positive_in_words.Goals as goal

pub returns : goal.returns
returns c =
    let d = c.args.table.now.dict.now in
    let columns = c.columns-j-end.ensures in
    let n : length c.columns-j-end.result.now ≡ length d.columns = ap length columns.value in
    let l = c.columns-test.false in (
      (λ _ j m. at_each (λ (k : ℕ). IsOtherPositive d c.args.table.now.order.now c.args.col k) d.columns c.columns.j
          (omega arith) c.columns.invariant j
          (subst (λ (ks : List ℕ). Contains ks j) columns.value (columns.key.there j m))),
      (λ _. refl),
    )
