use Rattle.std.proofs.Common.{◌∙◌, sym, refl, true≢false}
use Rattle.lex_pivot.proofs.EarlierLemmas.{row_has, row_only}
use Rattle.lex_pivot.proofs.leads.spot_of.Goals.{else-is_row-via-then-is_row+else-has_label, else-is_row-via-else-is_row}
use Rattle.lex_pivot.proofs.leads.spot_of.Goals as goal

pub returns-then-has_label : goal.returns-then-has_label
returns-then-has_label c = (
  row_has c.args.dict.now.labels c.args.label (c.if-has_label.ensures.0 refl) (sym c.if-is_row.ensures.value),
  c.position.ensures,
)

pub returns-else-is_row : goal.returns-else-is_row
returns-else-is_row c m =
    let r = row_only c.args.dict.now.labels c.args.label m in
    elim c.else-is_row.branch [
      | else-is_row-via-then-is_row+else-has_label w ↦ absurd (true≢false (sym (w.if-has_label.ensures.1 r.0)))
      | else-is_row-via-else-is_row w ↦ absurd (true≢false (sym (w.if-is_row.ensures.value ∙ r.1)))
    ]
