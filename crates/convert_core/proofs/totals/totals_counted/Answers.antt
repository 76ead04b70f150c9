use Rattle.std.specs.Result.{IsErrOf}
use Rattle.std.proofs.Common.{◌≡◌, inl, inr, ⊎_elim, Err, IfOk, ap, subst}
use Rattle.poly_model.specs.Systems.{Polyhedron}
use Rattle.convert_core.specs.declared.begin.SearchStop.{SearchStop}
use Rattle.convert_core.specs.Totals.{AreTotals}
use Rattle.convert_core.specs.Listed.{IsDueInSearch}
use Rattle.convert_core.proofs.totals.totals_counted.Goals as goal

pub returns-in-Ok-clause-totals : goal.returns-in-Ok-clause-totals
returns-in-Ok-clause-totals g c =
    subst (λ (p : Polyhedron). IfOk c.add_up.result (AreTotals p)) c.in-Ok.ensures.poly c.add_up.ensures.totals

pub returns-in-Ok-clause-overflow : goal.returns-in-Ok-clause-overflow
returns-in-Ok-clause-overflow g c o h =
    subst (λ (p : Polyhedron). IsDueInSearch p o) c.in-Ok.ensures.poly (c.add_up.ensures.overflow o h)

-- an error of another result
other_result : {T U : Type 0} (a b : SearchStop) → IsErrOf {T = T} {E = SearchStop} (Err a) b →
    IsErrOf {T = U} {E = SearchStop} (Err a) b
other_result a b h = ap (λ (x : SearchStop). Err x) (let same : a ≡ b = cc in same)

pub returns-in-Err-clause-overflow : goal.returns-in-Err-clause-overflow
returns-in-Err-clause-overflow g c o h =
    ⊎_elim (λ b. inl b) (λ b. inr (inl b))
    (c.in-Err.ensures.overflow o (other_result c.in-Err.stop (SearchStop.Overflow o) h))
