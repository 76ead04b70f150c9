use Rattle.std.proofs.Common.{refl}
use Rattle.std.specs.declared.cmp.Ordering.TheVariants.{Greater}
use Rattle.lex_pivot.proofs.EarlierLemmas.{by_answer}
use Rattle.lexmin_test.proofs.ZeroLemmas.{inside_decides, outside_decides}
use Rattle.lexmin_test.proofs.rays.is_positive_on_zeros.Goals as goal

pub returns-then-differs : goal.returns-then-differs
returns-then-differs c =
    by_answer _ c.is_greater.result c.root_sign-inside.result Greater c.is_greater.ensures.yes c.is_greater.ensures.no
    (inside_decides c.args.dict.now c.args.order.now c.args.col c.args.other c.root_sign-inside.result
    c.root_sign-inside.ensures (c.if-differs.ensures.yes refl))

pub returns : goal.returns
returns c =
    by_answer _ c.is_greater-2.result c.outside_sign.result Greater c.is_greater-2.ensures.yes c.is_greater-2.ensures.no
    (outside_decides c.args.dict.now c.args.order.now c.args.col c.args.other c.root_sign-inside.result
    c.outside_sign.result c.root_sign-inside.ensures (c.if-differs.ensures.no refl) c.outside_sign.ensures)
