use Rattle.std.proofs.Common.{◌≡◌, subst, ap, Err}
use Rattle.poly_model.specs.declared.overflow.Overflow.{Overflow as Passed}
use Rattle.poly_model.specs.Due.{IsDue, IsAskedBefore}
use Rattle.poly_model.specs.Systems.{Polyhedron}
use Rattle.coordinator.proofs.reopening.go_from.Goals as goal

pub returns-in-Err-Overflow-clause-overflow : goal.returns-in-Err-Overflow-clause-overflow
returns-in-Err-Overflow-clause-overflow c o is =
    let same : c.in-Err-Overflow.overflow ≡ o = cc in
    subst (λ (p : Polyhedron). IsDue p o (IsAskedBefore p o)) c.poly.ensures
    (subst (λ (x : Passed). IsDue c.poly.result.now x (IsAskedBefore c.poly.result.now x)) same
    (c.in-Err-Overflow.ensures.overflow c.in-Err-Overflow.overflow (ap Err c.in-Err-Overflow.field-0-is)))
