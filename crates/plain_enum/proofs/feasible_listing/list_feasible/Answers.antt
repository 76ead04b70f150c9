use Rattle.std.proofs.Common.{◌≡◌, refl, subst}
use Rattle.poly_model.specs.declared.overflow.Overflow.{Overflow}
use Rattle.plain_enum.specs.Plain.{PassesInCone}
use Rattle.plain_enum.proofs.NothingListed.{nothing_listed}
use Rattle.plain_enum.proofs.feasible_listing.list_feasible.Goals as goal

pub returns-in-Err-Overflow-clause-listed : goal.returns-in-Err-Overflow-clause-listed
returns-in-Err-Overflow-clause-listed g c p file =
    nothing_listed p (g.S.Sink.written c.args.out.now) _ refl _ (λ e. absurd (cc))
    (λ o e.
    let found = (rw c.in-Err-Overflow.field-0-is at c.in-Err-Overflow.ensures.overflow) c.in-Err-Overflow.overflow refl
    p file in
    let same : c.in-Err-Overflow.overflow ≡ o = cc in
    subst (λ (x : Overflow). PassesInCone p x) same found)

pub returns-in-Err-Memory-clause-listed : goal.returns-in-Err-Memory-clause-listed
returns-in-Err-Memory-clause-listed g c p file =
    nothing_listed p (g.S.Sink.written c.args.out.now) _ refl _ (λ e. absurd (cc)) (λ o e. absurd (cc))

pub returns-in_default-clause-listed : goal.returns-in_default-clause-listed
returns-in_default-clause-listed g c p file =
    nothing_listed p (g.S.Sink.written c.args.out.now) _ refl _ (λ e. absurd (cc)) (λ o e. absurd (cc))
