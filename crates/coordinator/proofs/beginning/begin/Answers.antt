use Rattle.std.proofs.Common.{◌≡◌, refl, subst, ap, Err}
use Rattle.poly_model.specs.declared.overflow.Overflow.{Overflow as Passed}
use Rattle.poly_model.specs.Due.{IsDue, IsAskedBefore}
use Rattle.coordinator.proofs.beginning.begin.Goals as goal

pub returns-in-Err-Overflow-clause-overflow : goal.returns-in-Err-Overflow-clause-overflow
returns-in-Err-Overflow-clause-overflow g c o is =
    let same : c.in-Err-Overflow.overflow ≡ o = cc in
    let p = c.args.first.poly in
    (subst (λ (x : Passed). IsDue p x (IsAskedBefore p x)) same (c.in-Err-Overflow.ensures.overflow c.in-Err-Overflow.overflow (ap Err c.in-Err-Overflow.field-0-is)), refl)
