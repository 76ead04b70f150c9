use Rattle.std.proofs.Common.{subst, sym, ◌∙◌}
use Rattle.dictionary.specs.Views.{Dictionary, IsWhole}
use Rattle.dictionary.proofs.OverflowLemmas.{PassesAtLabel, passes_at_label}
use Rattle.dictionary.proofs.dict.Dict.products_in.Goals.{After-column_of}
use Rattle.dictionary.proofs.dict.Dict.products_in.Goals as goal

passes : (c : After-column_of) →
    PassesAtLabel c.args.self.now c.args.row c.args.col c.label_after-label.result c.args.spot.column
passes c =
    let now = c.args.self.now in
    passes_at_label now c.args.row c.args.col (subst (λ (d : Dictionary). IsWhole d) c.self.view_is c.self.invariant.2)
    c.requires.can c.args.spot.row c.args.spot.column c.requires.passes c.label_after-label.result
    (λ e. c.label_after-label.ensures.here (e ∙ sym c.row_of.ensures.value))
    (λ n. c.label_after-label.ensures.beside (λ e. n (e ∙ c.row_of.ensures.value)))

pub outer_products-requires-clause-label : goal.outer_products-requires-clause-label
outer_products-requires-clause-label c = (passes (goal.at.outer_products-requires-clause-label c).After-column_of).label

pub outer_products-requires-clause-passes : goal.outer_products-requires-clause-passes
outer_products-requires-clause-passes c =
    (passes (goal.at.outer_products-requires-clause-passes c).After-column_of).own (c.if-spot-column_of.true ∙ c.column_of.ensures.value)

pub inner_products-requires-clause-label : goal.inner_products-requires-clause-label
inner_products-requires-clause-label c = (passes (goal.at.inner_products-requires-clause-label c).After-column_of).label

pub inner_products-requires-clause-other : goal.inner_products-requires-clause-other
inner_products-requires-clause-other c =
    (passes (goal.at.inner_products-requires-clause-other c).After-column_of).other (λ e. c.if-spot-column_of.false (e ∙ sym c.column_of.ensures.value))

pub inner_products-requires-clause-passes : goal.inner_products-requires-clause-passes
inner_products-requires-clause-passes c =
    (passes (goal.at.inner_products-requires-clause-passes c).After-column_of).cross (λ e. c.if-spot-column_of.false (e ∙ sym c.column_of.ensures.value))

pub returns-then-spot-column_of : goal.returns-then-spot-column_of
returns-then-spot-column_of c = c.outer_products.ensures c.args.row
