use Rattle.std.specs.declared.cmp.Ordering.TheVariants.{Greater}
use Rattle.search_laws.specs.ChildTest.{downward}
use Rattle.poly_model.specs.Dictionaries.{Table}
use Rattle.dictionary.specs.Views.{table_of}
use Rattle.lex_pivot.proofs.EarlierLemmas.{by_answer}
use Rattle.lex_pivot.proofs.FirstSigns.{values_greater}
use Rattle.lex_pivot.proofs.child.leads_up.Goals as goal

pub returns : goal.returns
returns c =
    by_answer _ c.is_greater.result c.sign.result Greater c.is_greater.ensures.yes c.is_greater.ensures.no
    (values_greater (λ q. Table.entry (table_of c.args.dict.now) q c.args.col)
    (downward c.args.dict.now.labels c.args.order.now) c.sign.result c.sign.ensures)
