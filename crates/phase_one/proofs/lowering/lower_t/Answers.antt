use Rattle.std.proofs.Common.{Err, ◌∙◌, sym, ap, subst, arith}
use Rattle.std.proofs.lemmas.Result.{err_from_is_err_and}
use Rattle.std.specs.Prelude.{IfErr}
use Rattle.poly_model.specs.Spaces.{Space}
use Rattle.lex_pivot.proofs.EarlierLemmas.{rows_ascend}
use Rattle.search_laws.proofs.StepBounds.{few_steps}
use Rattle.phase_one.specs.Lowering.{MayLower, IsOnDescent, StopsLowering}
use Rattle.phase_one.proofs.StepLemmas.{t_there, of_rows, none_left, some_end, some_step_left, reached_next, one_less}
use Rattle.phase_one.proofs.CounterLemmas.{within_counter}
use Rattle.phase_one.proofs.lowering.lower_t.Goals as goal

pub steps-init : goal.steps-init
steps-init g c first may x = (
  x,
  λ e. within_counter e.steps c.full-left.result
      (few_steps first c.args.order.now c.args.dict.now.key 0 (rows_ascend first.labels c.args.order.now may.ascending) e)
      c.full-left.ensures,
)

pub least_column-requires-clause-t : goal.least_column-requires-clause-t
least_column-requires-clause-t g c =
    let (first, may, x) = c.requires.reached in
    t_there first c.args.order.now may c.steps.dict (c.steps.invariant first may x).0

pub least_column-requires-clause-rows : goal.least_column-requires-clause-rows
least_column-requires-clause-rows g c =
    let (first, may, x) = c.requires.reached in
    of_rows first c.args.order.now may c.steps.dict (c.steps.invariant first may x).0

pub lower-requires : goal.lower-requires
lower-requires g c =
    let (first, may, x) = c.requires.reached in
    let now = c.steps.invariant first may x in
    let e = some_end first c.args.order.now may c.steps.dict now.0 in
    let some = some_step_left first c.args.order.now may c.steps.dict now.0 c.in-Some.col c.in-Some.ensures.member
    c.in-Some.ensures.asked e in
    let few = now.1 e in
    omega arith

pub lower_once-requires-clause-t : goal.lower_once-requires-clause-t
lower_once-requires-clause-t g c =
    let (first, may, x) = c.requires.reached in
    t_there first c.args.order.now may c.steps.dict (c.steps.invariant first may x).0

pub steps-preserved : goal.steps-preserved
steps-preserved g c first may x =
    let now = c.steps.invariant first may x in
    let step = c.in_ok-lower_once.ensures.step in (
      reached_next first c.args.order.now may c.steps.dict now.0 c.in-Some.col c.in-Some.ensures c.lower_once.new.dict step,
      λ f.
          let e = some_end first c.args.order.now may c.steps.dict now.0 in
          let less = one_less first c.args.order.now may c.steps.dict now.0 c.in-Some.col c.in-Some.ensures
          c.lower_once.new.dict step e f in
          let few = now.1 e in
          let lowered = c.lower.ensures in
          omega arith,
    )

pub returns-in_err-lower_once-clause-overflow : goal.returns-in_err-lower_once-clause-overflow
returns-in_err-lower_once-clause-overflow g c =
    let q = err_from_is_err_and c.from_residual.result c.from_residual.ensures.1 in
    subst
    (λ r. IfErr r (λ o. (first : Space) → MayLower first c.args.order.now →
    IsOnDescent first c.args.order.now c.args.dict.now → StopsLowering first c.args.order.now o))
    (sym (q.1 ∙ ap (λ v. Err v) q.2))
    (λ first may x. record {
      at = c.steps.dict;
      reached = (c.steps.invariant first may x).0;
      s = c.in-Some.col;
      stops = c.in_err-lower_once.ensures.stops;
    })

pub returns-clause-lowered : goal.returns-clause-lowered
returns-clause-lowered g c first may x = record {
  reached = (c.steps.invariant first may x).0;
  lowest = none_left c.steps.dict c.in_default.ensures;
}
