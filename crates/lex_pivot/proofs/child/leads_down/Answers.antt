use Rattle.std.proofs.Common.{subst, ℤ, pos, ◌<ℤ◌, ◌↔◌}
use Rattle.std.specs.Bool.{IsTrue}
use Rattle.std.specs.declared.cmp.Ordering.TheVariants.{Less}
use Rattle.search_laws.specs.ChildTest.{downward}
use Rattle.poly_model.specs.Dictionaries.{Table}
use Rattle.poly_model.specs.Tree.{MayEnter}
use Rattle.dictionary.specs.Views.{table_of}
use Rattle.lex_pivot.proofs.EarlierLemmas.{by_answer}
use Rattle.lex_pivot.proofs.EnterLemmas.{some_row_leaves}
use Rattle.lex_pivot.proofs.FirstSigns.{values_less}
use Rattle.lex_pivot.proofs.child.leads_down.Goals.{After-is_less}
use Rattle.lex_pivot.proofs.child.leads_down.Goals as goal

falls : (c : After-is_less) →
    IsTrue c.is_less.result ↔ MayEnter c.args.dict.now.labels c.args.order.now (table_of c.args.dict.now) c.args.col
falls c =
    by_answer _ c.is_less.result c.sign.result Less c.is_less.ensures.yes c.is_less.ensures.no
    (values_less (λ q. Table.entry (table_of c.args.dict.now) q c.args.col)
    (downward c.args.dict.now.labels c.args.order.now) c.sign.result c.sign.ensures)

pub returns-clause-may : goal.returns-clause-may
returns-clause-may c = falls c

pub returns-clause-leaves : goal.returns-clause-leaves
returns-clause-leaves c t none =
    some_row_leaves c.args.dict.now c.args.order.now c.cobasis-units.ensures.units
    (subst (λ (z : ℤ). pos 0 <ℤ z) c.denominator-denominator.ensures.value c.denominator-denominator.ensures.positive)
    c.args.col c.requires.column ((falls c).0 t) none
