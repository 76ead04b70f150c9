use Rattle.std.proofs.Common.{◌∙◌, sym, subst, true≢false}
use Rattle.poly_model.specs.Keys.{IsAscending}
use Rattle.tree_laws.proofs.OrderLemmas.{earlier_rows}
use Rattle.lex_pivot.proofs.EarlierLemmas.{space_of, row_has, row_only, earlier_by_test}
use Rattle.lex_pivot.proofs.rows.comes_before.Goals as goal

pub returns-then-not-is_row : goal.returns-then-not-is_row
returns-then-not-is_row c = (
  (λ t. absurd (true≢false (sym t))),
  (λ x. absurd (true≢false (sym (row_only c.args.dict.now.labels c.args.label
      (earlier_rows (space_of c.args.dict.now.labels) c.args.order.now c.args.label c.args.row x).0).1
      ∙ sym c.is_row.ensures.value ∙ c.if-not-is_row.true))),
)

pub returns : goal.returns
returns c =
    let t = earlier_by_test c.args.dict.now.labels c.args.order.now
    (subst IsAscending c.labels-all.ensures.value c.labels-all.ensures.ascending) c.args.label c.args.row
    (row_has c.args.dict.now.labels c.args.label c.requires.label (sym c.is_row.ensures.value ∙ c.if-not-is_row.false))
    c.requires.row in
    ((λ h. t.0 (sym c.is_earlier.ensures ∙ h)), (λ x. c.is_earlier.ensures ∙ t.1 x))
