use Rattle.std.proofs.Common.{◌∙◌, sym, true≢false}
use Rattle.lex_pivot.proofs.EarlierLemmas.{before_has, before_only}
use Rattle.lex_pivot.proofs.feasible.sign_listed.Goals as goal

pub returns-then-is_before_root-clause-outside : goal.returns-then-is_before_root-clause-outside
returns-then-is_before_root-clause-outside c n =
    before_has c.args.dict.now.labels c.args.order.now c.args.k c.requires.label (sym c.if-is_before_root.ensures)

pub returns-else-is_before_root-clause-value : goal.returns-else-is_before_root-clause-value
returns-else-is_before_root-clause-value c m =
    absurd (true≢false (sym (c.if-is_before_root.ensures
    ∙ (before_only c.args.dict.now.labels c.args.order.now c.args.k m).1)))
