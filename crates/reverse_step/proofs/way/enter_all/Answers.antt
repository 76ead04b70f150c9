use Rattle.std.proofs.Common.{Err, Bool, ◌<◌, length, get_or, sym, ap, subst, ◌∙◌, arith}
use Rattle.std.specs.Prelude.{IfErr}
use Rattle.std.specs.List.{Contains}
use Rattle.std.proofs.lemmas.Result.{err_from_is_err_and}
use Rattle.lex_pivot.proofs.EarlierLemmas.{at_each}
use Rattle.reverse_step.specs.Ways.{StopsOnTheWay, IsTakenIn}
use Rattle.reverse_step.proofs.WayLemmas.{and_one, stands_at, goes_on, stops_later}
use Rattle.reverse_step.proofs.way.enter_all.Goals as goal

pub enter-requires-clause-label : goal.enter-requires-clause-label
enter-requires-clause-label g c =
    let l : c.labels.i < length c.args.key.now = (let t = c.labels-test.true in let b = c.labels.auto.i-end in omega arith) in
    subst (λ ls. Contains ls c.index-key-i.result) (sym c.labels.invariant.way.labels)
    (c.requires c.index-key-i.result (c.labels.i, l, sym c.index-key-i.is))

pub returns-in_err-enter-clause-way : goal.returns-in_err-enter-clause-way
returns-in_err-enter-clause-way g c =
    goes_on c.args.dict.now c.labels.dict c.enter.new.dict c.args.key.now c.labels.invariant.way c.in_err-enter.ensures.way

pub returns-in_err-enter-clause-stops : goal.returns-in_err-enter-clause-stops
returns-in_err-enter-clause-stops g c =
    let q = err_from_is_err_and c.from_residual.result c.from_residual.ensures.1 in
    subst (λ r. IfErr r (λ o. StopsOnTheWay c.args.dict.now c.args.key.now o)) (sym (q.1 ∙ ap (λ v. Err v) q.2))
    (stops_later c.args.dict.now c.labels.dict c.args.key.now c.in_err-enter.field-0.0 c.labels.invariant.way
    c.in_err-enter.ensures.stops)

pub returns-then-not-branch-clause-way : goal.returns-then-not-branch-clause-way
returns-then-not-branch-clause-way g c =
    goes_on c.args.dict.now c.labels.dict c.enter.new.dict c.args.key.now c.labels.invariant.way c.in_ok-enter.ensures.way

pub labels-preserved : goal.labels-preserved
labels-preserved g c =
    let key = c.args.key.now in
    let l : c.labels.i < length key = (let t = c.labels-test.true in let b = c.labels.auto.i-end in omega arith) in
    record {
      way = goes_on c.args.dict.now c.labels.dict c.enter.new.dict key c.labels.invariant.way c.in_ok-enter.ensures.way;
      entered = and_one (Contains c.enter.new.dict.key) key c.labels.i c.index-key-i.result l c.index-key-i.is
          (subst (λ (b : Bool). IsTakenIn c.labels.dict key c.index-key-i.result b c.enter.new.dict) c.if-not-branch.false
          c.in_ok-enter.ensures.entered)
          (λ j m. c.in_ok-enter.ensures.kept (get_or key j 0) (stands_at key j (omega arith)) (c.labels.invariant.entered j m));
      counted = let a = c.in_ok-enter.ensures.counted in let b = c.labels.invariant.counted in omega arith;
    }

pub returns-clause-entered : goal.returns-clause-entered
returns-clause-entered g c =
    at_each (Contains c.labels.dict.key) c.args.key.now c.labels.i
    (let l = c.labels-test.false in let b = c.labels.auto.i-end in omega arith) c.labels.invariant.entered
