use Rattle.std.proofs.Common.{inl}
use Rattle.std.proofs.lemmas.Result.{IfOk-weaker, IfErr-weaker}
use Rattle.linearity.proofs.eliminate.enter.Goals as goal

pub returns-in-Some-clause-entered : goal.returns-in-Some-clause-entered
returns-in-Some-clause-entered g c =
    IfOk-weaker c.pivot.result _ _
    (λ _ p. inl (
      c.in-Some.col,
      record { column = c.in-Some.ensures.some; can = c.in-Some.ensures.pivots; pivot = p },
    ))
    c.pivot.ensures.pivoted

pub returns-in-Some-clause-overflows : goal.returns-in-Some-clause-overflows
returns-in-Some-clause-overflows g c =
    IfErr-weaker c.pivot.result _ _
    (λ o h. (c.in-Some.col, record { column = c.in-Some.ensures.some; can = c.in-Some.ensures.pivots; overflow = h }))
    c.pivot.ensures.passes
