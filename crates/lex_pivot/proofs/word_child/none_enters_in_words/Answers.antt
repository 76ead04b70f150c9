use Rattle.std.proofs.Common.{◌≡◌, refl, ap, subst, arith, length, List, ℕ}
use Rattle.std.specs.List.{Contains}
use Rattle.lex_pivot.specs.Children.{EntersInPlace}
use Rattle.lex_pivot.proofs.EarlierLemmas.{at_each}
use Rattle.lex_pivot.proofs.word_child.none_enters_in_words.Goals as goal

pub returns : goal.returns
returns c =
    let columns = c.columns-j-end.ensures in
    let n : length c.columns-j-end.result.now ≡ length c.args.table.now.dict.now.columns = ap length columns.value in
    let l = c.columns-test.false in (
      (λ _ j m. at_each
          (λ (k : ℕ). EntersInPlace c.args.table.now.dict.now c.args.table.now.order.now c.args.pivot.now.col c.args.pivot.now.row k → ⊥)
          c.args.table.now.dict.now.columns c.columns.j (omega arith) c.columns.invariant j
          (subst (λ (ks : List ℕ). Contains ks j) columns.value (columns.key.there j m))),
      (λ _. refl),
    )
