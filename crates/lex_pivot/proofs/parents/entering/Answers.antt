use Rattle.std.proofs.Common.{subst, true, ℕ, Option, Some, None}
use Rattle.std.specs.Option.{MatchOption}
use Rattle.poly_model.specs.Keys.{IsAscending}
use Rattle.lex_pivot.specs.Above.{NoneOn, IsLeastOn, EntersAt, NoneEnters}
use Rattle.lex_pivot.proofs.EnterLemmas.{enters_outside, enters_inside, none_enters}
use Rattle.lex_pivot.proofs.parents.entering.Goals.{In-None}
use Rattle.lex_pivot.proofs.parents.entering.Goals as goal

pub returns-in-Some-clause-enters : goal.returns-in-Some-clause-enters
returns-in-Some-clause-enters c =
    enters_outside c.args.dict.now c.args.order.now
    (subst IsAscending c.labels-all.ensures.value c.labels-all.ensures.ascending) c.in-Some.col c.in-Some.ensures

inside : (c : In-None) (o : Option ℕ) →
    MatchOption o (NoneOn c.args.dict.now c.args.order.now true) (λ s. IsLeastOn c.args.dict.now c.args.order.now true s) →
    MatchOption o (NoneEnters c.args.dict.now c.args.order.now) (λ s. EntersAt c.args.dict.now c.args.order.now s)
inside c None h = none_enters c.args.dict.now c.args.order.now c.in-None.ensures h
inside c (Some s) h =
    enters_inside c.args.dict.now c.args.order.now
    (subst IsAscending c.labels-all.ensures.value c.labels-all.ensures.ascending) c.in-None.ensures s h

pub returns-in-None-clause-enters : goal.returns-in-None-clause-enters
returns-in-None-clause-enters c =
    inside (goal.at.returns-in-None-clause-enters c).In-None c.first_on-in-None.result c.first_on-in-None.ensures
