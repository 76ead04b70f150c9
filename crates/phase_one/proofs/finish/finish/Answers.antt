use Rattle.std.proofs.Common.{ℤ, pos, refl, sym, subst, true≢false}
use Rattle.std.specs.Prelude.{◌<ℤ◌}
use Rattle.std.proofs.lemmas.Result.{IfOk-weaker}
use Rattle.poly_model.specs.Spaces.{lifted}
use Rattle.phase_one.specs.Ending.{StopsEnding}
use Rattle.phase_one.proofs.FinishLemmas.{stops_lowering, t_there, outside, none_meets, ended_inside, stops_coming_back, ended_back}
use Rattle.phase_one.proofs.StopLemmas.{same_overflow}
use Rattle.phase_one.proofs.finish.finish.Goals as goal

pub returns-in-Err-clause-overflow : goal.returns-in-Err-clause-overflow
returns-in-Err-clause-overflow g c o e space start way =
    subst (λ x. StopsEnding space start c.args.order.now x) (same_overflow c.in-Err.overflow o e)
    (stops_lowering space start c.args.order.now c.args.dict way c.in-Err.overflow
    (c.in-Err.ensures.overflow (lifted space start) way.may way.reached))

pub returns-then-in_cobasis-clause-ended : goal.returns-then-in_cobasis-clause-ended
returns-then-in_cobasis-clause-ended g c =
    IfOk-weaker c.without_t.result _ _
    (λ d drops space start way. ended_inside space start c.args.order.now c.args.dict way c.lower_t.new.dict
    (c.in_default.ensures.lowered (lifted space start) way.may way.reached) (c.if-in_cobasis.ensures.0 refl) d drops)
    c.without_t.ensures.dropped

pub constant-requires : goal.constant-requires
constant-requires g c =
    let (space, start, way) = c.requires.begun in
    t_there space start c.args.order.now c.args.dict way c.lower_t.new.dict
    (c.in_default.ensures.lowered (lifted space start) way.may way.reached)

pub returns-then-is_positive-clause-infeasible : goal.returns-then-is_positive-clause-infeasible
returns-then-is_positive-clause-infeasible g c e space start way =
    none_meets space start c.args.order.now c.args.dict way c.lower_t.new.dict
    (c.in_default.ensures.lowered (lifted space start) way.may way.reached)
    (subst (λ (z : ℤ). pos 0 <ℤ z) c.constant.ensures (c.if-is_positive.ensures.0 refl))

pub bring_back-requires : goal.bring_back-requires
bring_back-requires g c =
    let (space, start, way) = c.requires.begun in
    record {
      outside = (
        space,
        start,
        outside space start c.args.order.now c.args.dict way c.lower_t.new.dict
            (c.in_default.ensures.lowered (lifted space start) way.may way.reached)
            (λ t. true≢false (sym (c.if-in_cobasis.ensures.1 t))),
      );
    }

pub returns-in-Err-bring_back-clause-overflow : goal.returns-in-Err-bring_back-clause-overflow
returns-in-Err-bring_back-clause-overflow g c o e space start way =
    subst (λ x. StopsEnding space start c.args.order.now x) (same_overflow c.in-Err-bring_back.overflow o e)
    (stops_coming_back space start c.args.order.now c.args.dict way c.lower_t.new.dict
    (c.in_default.ensures.lowered (lifted space start) way.may way.reached)
    (λ t. true≢false (sym (c.if-in_cobasis.ensures.1 t)))
    (λ up. true≢false (sym (c.if-is_positive.ensures.1 (subst (λ (z : ℤ). pos 0 <ℤ z) (sym c.constant.ensures) up))))
    c.in-Err-bring_back.overflow c.in-Err-bring_back.ensures.stops)

pub returns-clause-ended : goal.returns-clause-ended
returns-clause-ended g c =
    IfOk-weaker c.without_t-2.result _ _
    (λ d drops space start way. ended_back space start c.args.order.now c.args.dict way c.lower_t.new.dict
    (c.in_default.ensures.lowered (lifted space start) way.may way.reached)
    (λ t. true≢false (sym (c.if-in_cobasis.ensures.1 t)))
    (λ up. true≢false (sym (c.if-is_positive.ensures.1 (subst (λ (z : ℤ). pos 0 <ℤ z) (sym c.constant.ensures) up))))
    c.bring_back.new.dict d c.in_default-bring_back.ensures.back drops)
    c.without_t-2.ensures.dropped
