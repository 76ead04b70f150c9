use Rattle.std.proofs.Common.{◌≢◌, ◌∙◌, refl, sym, true≢false, get_or}
use Rattle.std.specs.declared.cmp.Ordering.TheVariants.{Greater}
use Rattle.lex_pivot.proofs.EarlierLemmas.{by_answer, read_at}
use Rattle.lexmin_test.proofs.ZeroLemmas.{inside_decides, outside_decides}
use Rattle.lexmin_test.proofs.word_rays.is_other_positive_in_words.Goals.{After-root_sign_on_zeros-inside}
use Rattle.lexmin_test.proofs.word_rays.is_other_positive_in_words.Goals as goal

another : (c : After-root_sign_on_zeros-inside) → get_or c.args.table.now.dict.now.columns c.args.j 0 ≢ c.args.col
another c e =
    true≢false (sym (c.if-is_same.ensures.1 (read_at c.columns.result.now c.args.table.now.dict.now.columns
    c.columns.ensures.value c.args.j c.index-columns-j.result c.requires.other c.index-columns-j.is ∙ e)))

pub returns-then-differs : goal.returns-then-differs
returns-then-differs c =
    let d = c.args.table.now.dict.now in
    let p = by_answer _ c.is_greater.result c.root_sign_on_zeros-inside.result Greater c.is_greater.ensures.yes
    c.is_greater.ensures.no
    (inside_decides d c.args.table.now.order.now c.args.col (get_or d.columns c.args.j 0)
    c.root_sign_on_zeros-inside.result c.root_sign_on_zeros-inside.ensures (c.if-differs.ensures.yes refl)) in (
      (λ t _. p.0 t),
      (λ x. p.1 (x (another (goal.at.returns-then-differs c).After-root_sign_on_zeros-inside))),
    )

pub returns : goal.returns
returns c =
    let d = c.args.table.now.dict.now in
    let p = by_answer _ c.is_greater-2.result c.outside_sign_on_zeros.result Greater c.is_greater-2.ensures.yes
    c.is_greater-2.ensures.no
    (outside_decides d c.args.table.now.order.now c.args.col (get_or d.columns c.args.j 0)
    c.root_sign_on_zeros-inside.result c.outside_sign_on_zeros.result c.root_sign_on_zeros-inside.ensures
    (c.if-differs.ensures.no refl) c.outside_sign_on_zeros.ensures) in (
      (λ t _. p.0 t),
      (λ x. p.1 (x (another (goal.at.returns c).After-root_sign_on_zeros-inside))),
    )
