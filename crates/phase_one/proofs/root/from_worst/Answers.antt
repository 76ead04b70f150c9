use Rattle.std.proofs.Common.{Err, sym, ap, ◌∙◌}
use Rattle.std.proofs.lemmas.Result.{err_from_is_err_and, IfOk-weaker}
use Rattle.linearity.proofs.Errors.{one_error}
use Rattle.phase_one.specs.declared.stop.FirstStop.TheVariants.{Overflow}
use Rattle.phase_one.proofs.FoundLemmas.{stops_begin, on_the_way, stops_end, given_from}
use Rattle.phase_one.proofs.root.from_worst.Goals as goal

pub returns-in_err-dict-clause-overflow : goal.returns-in_err-dict-clause-overflow
returns-in_err-dict-clause-overflow g c o e space h =
    let q = err_from_is_err_and c.from_residual.result c.from_residual.ensures.1 in
    let same = sym q.2 ∙ one_error c.from_residual.result (Overflow o) q.0 e q.1 in
    stops_begin space c.args.start h c.args.worst c.requires.worst o
    (c.in_err-dict.ensures.overflow o (ap (λ v. Err v) same) space h)

pub returns-clause-given : goal.returns-clause-given
returns-clause-given g c =
    let root = c.in-Ok.ensures ∙ c.new.ensures ∙ c.key.ensures in
    IfOk-weaker c.finish.result _ _
    (λ d ended space h.
    let begun = c.in_ok-dict.ensures.begun space h in
    given_from space c.args.start h c.args.worst c.requires.worst c.in_ok-dict.dict begun _ root d
    (ended space c.args.start.key
    (on_the_way space c.args.start h c.args.worst c.requires.worst c.in_ok-dict.dict begun _ root)))
    c.finish.ensures.ended

pub returns-clause-infeasible : goal.returns-clause-infeasible
returns-clause-infeasible g c e space h =
    c.finish.ensures.infeasible e space c.args.start.key
    (on_the_way space c.args.start h c.args.worst c.requires.worst c.in_ok-dict.dict
    (c.in_ok-dict.ensures.begun space h) _ (c.in-Ok.ensures ∙ c.new.ensures ∙ c.key.ensures))

pub returns-clause-overflow : goal.returns-clause-overflow
returns-clause-overflow g c o e space h =
    let root = c.in-Ok.ensures ∙ c.new.ensures ∙ c.key.ensures in
    let begun = c.in_ok-dict.ensures.begun space h in
    stops_end space c.args.start h c.args.worst c.requires.worst c.in_ok-dict.dict begun _ root o
    (c.finish.ensures.overflow o e space c.args.start.key
    (on_the_way space c.args.start h c.args.worst c.requires.worst c.in_ok-dict.dict begun _ root))
