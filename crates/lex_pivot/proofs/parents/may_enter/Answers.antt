use Rattle.std.specs.declared.cmp.Ordering.TheVariants.{Less}
use Rattle.poly_model.specs.Dictionaries.{Table}
use Rattle.poly_model.specs.LexOrder.{within, backwards}
use Rattle.dictionary.specs.Views.{table_of}
use Rattle.lex_pivot.proofs.EarlierLemmas.{by_answer}
use Rattle.lex_pivot.proofs.FirstSigns.{values_less}
use Rattle.lex_pivot.proofs.parents.may_enter.Goals as goal

pub returns : goal.returns
returns c =
    by_answer _ c.is_less.result c.root_sign.result Less c.is_less.ensures.yes c.is_less.ensures.no
    (values_less (λ q. Table.entry (table_of c.args.dict.now) q c.args.col)
    (backwards (within c.args.dict.now.labels c.args.order.now)) c.root_sign.result c.root_sign.ensures)
