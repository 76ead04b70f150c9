use Rattle.std.proofs.Common.{refl, sym, subst, arith, ℕ, List}
use Rattle.std.specs.List.{Contains}
use Rattle.lex_pivot.specs.Feasible.{IsListPositive}
use Rattle.lex_pivot.proofs.EarlierLemmas.{row_only, at_each}
use Rattle.lex_pivot.proofs.feasible.is_lex_feasible_by.Goals as goal

pub returns : goal.returns
returns c = (
  (λ t i o. at_each (λ (k : ℕ). IsListPositive c.args.dict.now c.args.order.now k) c.labels-labels.result.now
      c.rows.row-index (let l = c.rows-test.false in let b = c.rows.auto.row-index-end in omega arith) c.rows.invariant i
      (subst (λ (ks : List ℕ). Contains ks i) (sym c.labels-labels.ensures.value)
      (row_only c.args.dict.now.labels i o.row).0) o),
  (λ h. refl),
)
