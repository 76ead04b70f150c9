use Rattle.std.proofs.Common.{ℤ, pos, subst}
use Rattle.std.specs.Prelude.{◌<ℤ◌}
use Rattle.std.proofs.lemmas.Result.{IfOk-weaker, IfErr-weaker}
use Rattle.lex_pivot.proofs.PivotLemmas.{can_leave}
use Rattle.phase_one.proofs.StepLemmas.{t_leaves}
use Rattle.phase_one.proofs.lowering.lower_once.Goals.{In-None}
use Rattle.phase_one.proofs.lowering.lower_once.Goals as goal

pub pivot-requires : goal.pivot-requires
pivot-requires g c = can_leave c.args.dict.now c.args.order.now c.args.col c.in-Some.row c.requires.column c.in-Some.ensures

pub returns-in-Some-clause-step : goal.returns-in-Some-clause-step
returns-in-Some-clause-step g c =
    IfOk-weaker c.pivot.result _ _ (λ _ p. record { r = c.in-Some.row; leaves = c.in-Some.ensures; pivot = p })
    c.pivot.ensures.pivoted

pub returns-in-Some-clause-stops : goal.returns-in-Some-clause-stops
returns-in-Some-clause-stops g c =
    IfErr-weaker c.pivot.result _ _
    (λ o h. record { column = c.requires.column; r = c.in-Some.row; leaves = c.in-Some.ensures; overflow = h })
    c.pivot.ensures.passes

pub returns-in-None-clause-step : goal.returns-in-None-clause-step
returns-in-None-clause-step g c =
    absurd (t_leaves c.args.dict.now c.cobasis-cobasis.ensures.units
    (subst (λ (z : ℤ). pos 0 <ℤ z) c.denominator-denominator.ensures.value c.denominator-denominator.ensures.positive)
    c.args.col c.requires.t c.requires.column c.requires.negative c.in-None.ensures)
