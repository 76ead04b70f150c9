use Rattle.std.proofs.Common.{subst, ℤ, pos, ◌<ℤ◌}
use Rattle.lex_pivot.proofs.EnterLemmas.{some_row_leaves, none_at_root, some_below_root}
use Rattle.lex_pivot.proofs.parents.parent_along.Goals.{In-None-leaving_along}
use Rattle.lex_pivot.proofs.parents.parent_along.Goals as goal

pub returns-in-Some-leaving_along-clause-root : goal.returns-in-Some-leaving_along-clause-root
returns-in-Some-leaving_along-clause-root c =
    some_below_root c.args.dict.now c.args.order.now _ (record {
      column = c.in-Some.ensures.column;
      enters = c.in-Some.ensures.enters;
      leaves = c.in-Some-leaving_along.ensures;
    })

impossible : In-None-leaving_along → ⊥
impossible c =
    some_row_leaves c.args.dict.now c.args.order.now c.cobasis-cobasis.ensures.units
    (subst (λ (z : ℤ). pos 0 <ℤ z) c.denominator-denominator.ensures.value c.denominator-denominator.ensures.positive)
    c.in-Some.col c.in-Some.ensures.column c.in-Some.ensures.enters.may c.in-None-leaving_along.ensures

pub returns-in-None-leaving_along-clause-pivot : goal.returns-in-None-leaving_along-clause-pivot
returns-in-None-leaving_along-clause-pivot c =
    absurd (impossible (goal.at.returns-in-None-leaving_along-clause-pivot c).In-None-leaving_along)

pub returns-in-None-leaving_along-clause-root : goal.returns-in-None-leaving_along-clause-root
returns-in-None-leaving_along-clause-root c =
    absurd (impossible (goal.at.returns-in-None-leaving_along-clause-root c).In-None-leaving_along)

pub returns-in-None-clause-root : goal.returns-in-None-clause-root
returns-in-None-clause-root c = none_at_root c.args.dict.now c.args.order.now c.in-None.ensures.enters
