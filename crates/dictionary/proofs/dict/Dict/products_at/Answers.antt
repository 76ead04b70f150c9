use Rattle.std.proofs.Common.{subst}
use Rattle.columns.specs.declared.exchange.Passing.{Passing}
use Rattle.columns.specs.Cells.{ExchangePasses}
use Rattle.dictionary.specs.Views.{Dictionary, IsWhole, exchange_at}
use Rattle.dictionary.proofs.OverflowLemmas.{denominator_passes}
use Rattle.dictionary.proofs.dict.Dict.products_at.Goals as goal

pub outer_products-requires-clause-passes : goal.outer_products-requires-clause-passes
outer_products-requires-clause-passes c =
    denominator_passes c.args.self.now c.args.row c.args.col
    (subst (λ (d : Dictionary). IsWhole d) c.self.view_is c.self.invariant.2) c.requires.can
    (subst (λ (p : Passing). ExchangePasses (exchange_at c.args.self.now c.args.row c.args.col) c.args.self.now.cells p)
    c.in-Denominator.is c.requires.passes)

pub returns-in-Denominator : goal.returns-in-Denominator
returns-in-Denominator c = c.outer_products.ensures c.args.row
