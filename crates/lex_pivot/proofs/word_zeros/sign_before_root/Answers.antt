use Rattle.std.proofs.Common.{◌∙◌, sym, true≢false}
use Rattle.lex_pivot.proofs.EarlierLemmas.{before_has, before_only}
use Rattle.lex_pivot.proofs.word_zeros.sign_before_root.Goals as goal

pub returns-then-is_before_root-clause-outside : goal.returns-then-is_before_root-clause-outside
returns-then-is_before_root-clause-outside c n =
    before_has c.args.table.now.dict.now.labels c.args.table.now.order.now c.args.row c.requires.row (sym c.if-is_before_root.ensures)

pub returns-else-is_before_root-clause-value : goal.returns-else-is_before_root-clause-value
returns-else-is_before_root-clause-value c m =
    absurd (true≢false (sym (c.if-is_before_root.ensures
    ∙ (before_only c.args.table.now.dict.now.labels c.args.table.now.order.now c.args.row m).1)))
