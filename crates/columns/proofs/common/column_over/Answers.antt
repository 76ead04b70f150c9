use Rattle.std.proofs.Common.{rules, arith, ◌≡◌, ◌≢◌, ◌<◌, ℕ, ℤ, pos, ◌*ℤ◌, length, ap, sym, subst, ◌∙◌, below_more, get_or-set_same, get_or-set_other}
use Rattle.poly_num.proofs.Ring.{mul_assoc}
use Rattle.columns.specs.Cells.{cell_at}
use Rattle.columns.proofs.common.column_over.Goals as goal

pub cells-preserved : goal.cells-preserved
cells-preserved c =
    let x = c.args.x.now in
    let h = c.args.factors.now.common in
    let t = c.args.factors.now.sign in
    let q = c.in-Some-word_over.q in
    let over : q *ℤ h ≡ cell_at x.height c.args.cells.now c.cells.i x.column =
    ap (λ (z : ℤ). q *ℤ z) (sym c.in-Some.ensures) ∙ c.in-Some-word_over.ensures ∙ c.word_at.ensures in
    let here : c.turned_word.result *ℤ h ≡ t *ℤ cell_at x.height c.args.cells.now c.cells.i x.column =
    ap (λ (z : ℤ). z *ℤ h) c.turned_word.ensures ∙ mul_assoc t q h ∙ ap (λ (z : ℤ). t *ℤ z) over in
    let lt : c.cells.i < length c.cells.own = search rules in
    let Is = λ (k : ℕ) (z : ℤ). z *ℤ h ≡ t *ℤ cell_at x.height c.args.cells.now k x.column in
    below_more _ _
    (λ k l.
    let ne : k ≢ c.cells.i = omega arith in
    subst (λ (z : ℤ). Is k z) (sym (get_or-set_other c.cells.own c.cells.i k c.turned_word.result (pos 0) ne))
    (c.cells.invariant k l))
    (subst (λ (z : ℤ). Is c.cells.i z) (sym (get_or-set_same c.cells.own c.cells.i c.turned_word.result (pos 0) lt)) here)
