use Rattle.std.proofs.Common.{◌∙◌, sym, true≢false}
use Rattle.lex_pivot.proofs.EarlierLemmas.{row_has, row_only}
use Rattle.reverse_step.proofs.way.is_row_of.Goals as goal

pub returns-then-is_row : goal.returns-then-is_row
returns-then-is_row c = (
  (λ t. row_has c.args.dict.now.labels c.args.label (c.has_label.ensures.0 t) (sym c.if-is_row.ensures.value)),
  (λ m. c.has_label.ensures.1 (row_only c.args.dict.now.labels c.args.label m).0),
)

pub returns-else-is_row : goal.returns-else-is_row
returns-else-is_row c = (
  (λ t. absurd (true≢false (sym t ∙ c.if-is_row.false))),
  (λ m. absurd (true≢false (sym (row_only c.args.dict.now.labels c.args.label m).1 ∙ sym c.if-is_row.ensures.value))),
)
