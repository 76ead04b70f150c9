use Rattle.std.proofs.Common.{Err, sym, ap, subst, ◌∙◌, true≢false}
use Rattle.std.specs.Prelude.{IfErr}
use Rattle.std.proofs.lemmas.Result.{err_from_is_err_and}
use Rattle.reverse_step.specs.Ways.{LiesBetween, StopsOnTheWay}
use Rattle.reverse_step.proofs.WayLemmas.{stays, pivots_on, depends}
use Rattle.reverse_step.proofs.way.enter.Goals as goal

pub returns-in_err-pivot-in-Some-clause-way : goal.returns-in_err-pivot-in-Some-clause-way
returns-in_err-pivot-in-Some-clause-way g c =
    subst (LiesBetween c.args.dict.now c.args.key.now) (sym c.in_err-pivot-in-Some.ensures.unchanged)
    (stays c.args.dict.now c.args.key.now)

pub returns-in_err-pivot-in-Some-clause-stops : goal.returns-in_err-pivot-in-Some-clause-stops
returns-in_err-pivot-in-Some-clause-stops g c =
    let q = err_from_is_err_and c.from_residual.result c.from_residual.ensures.1 in
    subst (λ r. IfErr r (λ o. StopsOnTheWay c.args.dict.now c.args.key.now o)) (sym (q.1 ∙ ap (λ v. Err v) q.2))
    (record {
      at = c.args.dict.now;
      way = stays c.args.dict.now c.args.key.now;
      r = c.args.label;
      s = c.in-Some.col;
      row = c.requires.key;
      gives = c.in-Some.ensures;
      overflow = c.in_err-pivot-in-Some.ensures.passes;
    })

pub returns-in_ok-pivot-in-Some-clause-way : goal.returns-in_ok-pivot-in-Some-clause-way
returns-in_ok-pivot-in-Some-clause-way g c =
    pivots_on c.args.dict.now c.pivot.new.self c.args.key.now c.args.label c.in-Some.col c.requires.key
    c.in_ok-pivot-in-Some.ensures.pivoted

pub returns-in-None-clause-entered : goal.returns-in-None-clause-entered
returns-in-None-clause-entered g c =
    depends c.args.dict.now c.args.key.now c.args.label c.requires.key
    (λ m. true≢false (sym (c.if-in_cobasis.ensures.1 m))) c.in-None.ensures
