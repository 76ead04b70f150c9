use Rattle.std.proofs.Common.{◌∙◌, sym, true≢false}
use Rattle.lex_pivot.proofs.EarlierLemmas.{row_only, outside_by_test}
use Rattle.lex_pivot.proofs.rows.is_outside.Goals as goal

pub returns-then-is_row : goal.returns-then-is_row
returns-then-is_row c =
    outside_by_test c.args.dict.now.labels c.args.dict.now.key c.args.row c.in_cobasis.result c.requires
    (sym c.if-is_row.ensures.value) c.in_cobasis.ensures

pub returns-else-is_row : goal.returns-else-is_row
returns-else-is_row c = (
  (λ t. absurd (true≢false (sym t ∙ c.if-is_row.false))),
  (λ o. absurd (true≢false (sym (row_only c.args.dict.now.labels c.args.row o.row).1 ∙ sym c.if-is_row.ensures.value))),
)
