use Rattle.std.proofs.Common.{◌∙◌, sym, refl}
use Rattle.std.specs.declared.cmp.Ordering.TheVariants.{Greater}
use Rattle.poly_model.specs.LexOrder.{list_of}
use Rattle.dictionary.specs.Views.{table_of}
use Rattle.lex_pivot.proofs.EarlierLemmas.{by_answer}
use Rattle.lex_pivot.proofs.FirstSigns.{greater}
use Rattle.lex_pivot.proofs.feasible.is_list_positive.Goals as goal

pub returns-else-not-is_outside : goal.returns-else-not-is_outside
returns-else-not-is_outside c =
    let g = greater (list_of c.args.dict.now.labels c.args.order.now c.args.dict.now.key (table_of c.args.dict.now) c.args.row) in
    by_answer _ c.is_greater.result c.list_sign.result Greater c.is_greater.ensures.yes c.is_greater.ensures.no (
      (λ e o. g.0 (sym c.list_sign.ensures ∙ e)),
      (λ h. c.list_sign.ensures ∙ g.1 (h (c.if-not-is_outside.ensures.0 refl))),
    )
