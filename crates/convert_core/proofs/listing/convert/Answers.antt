use Rattle.std.proofs.Common.{◌≡◌, inl, inr, ⊎_elim, refl, sym, subst}
use Rattle.poly_model.specs.declared.overflow.Overflow.{Overflow as Passed}
use Rattle.poly_model.specs.Systems.{Polyhedron}
use Rattle.row_printer.specs.Listings.{ListsIfFeasible}
use Rattle.row_printer.specs.declared.stop.ListStop.{ListStop}
use Rattle.convert_core.specs.Searches.{IsSearch, IsAtRoot}
use Rattle.convert_core.specs.Listed.{TakesSteps, IsDueInSearch}
use Rattle.convert_core.proofs.NotListed.{not_listed, no_steps, is_listed}
use Rattle.convert_core.proofs.listing.convert.Goals as goal

pub returns-in-Ok-clause-listed : goal.returns-in-Ok-clause-listed
returns-in-Ok-clause-listed g c =
    subst (λ (p : Polyhedron). ListsIfFeasible p (g.S.Sink.written c.args.out.now) (g.S.Sink.written c.print.new.out)
    (c.print.new.out ≡ c.args.out.now) (IsDueInSearch p) c.print.result) c.in-Ok.ensures.poly
    (is_listed c.in-Ok.search.poly.now c.in-Ok.search.cone c.in-Ok.search.rays c.in-Ok.search.walker
    c.in-Ok.search.vector.items
    (subst (λ (p : Polyhedron). IsSearch p c.in-Ok.search.cone c.in-Ok.search.rays c.in-Ok.search.walker
    c.in-Ok.search.vector.items) (sym c.in-Ok.ensures.poly) c.in-Ok.ensures.search)
    (subst (λ (p : Polyhedron). IsAtRoot p c.in-Ok.search.walker) (sym c.in-Ok.ensures.poly) c.in-Ok.ensures.at_root)
    (g.S.Sink.written c.args.out.now) (g.S.Sink.written c.print.new.out) _ c.print.result
    c.print.ensures.listed c.print.ensures.infeasible c.print.ensures.overflow)

pub returns-in-Ok-clause-cost : goal.returns-in-Ok-clause-cost
returns-in-Ok-clause-cost g c = subst (λ (p : Polyhedron). TakesSteps p c.args.steps.now c.print.new.steps) c.in-Ok.ensures.poly
    c.print.ensures.cost

pub returns-in-Err-Infeasible-clause-listed : goal.returns-in-Err-Infeasible-clause-listed
returns-in-Err-Infeasible-clause-listed g c =
    not_listed c.args.poly.now (g.S.Sink.written c.args.out.now) _ _ refl ListStop.Infeasible
    (λ e. (rw c.in-Err-Infeasible.field-0-is at c.in-Err-Infeasible.ensures.infeasible) refl) (λ o e. absurd (cc))

pub returns-in-Err-Infeasible-clause-cost : goal.returns-in-Err-Infeasible-clause-cost
returns-in-Err-Infeasible-clause-cost g c = no_steps c.args.poly.now c.args.steps.now

same_overflow : (a o : Passed) → ListStop.Overflow a ≡ ListStop.Overflow o → a ≡ o
same_overflow a o e = cc

pub returns-in-Err-Overflow-clause-listed : goal.returns-in-Err-Overflow-clause-listed
returns-in-Err-Overflow-clause-listed g c =
    not_listed c.args.poly.now (g.S.Sink.written c.args.out.now) _ _ refl (ListStop.Overflow c.in-Err-Overflow.overflow)
    (λ e. absurd (cc))
    (λ o e.
    let due = (rw c.in-Err-Overflow.field-0-is at c.in-Err-Overflow.ensures.overflow) c.in-Err-Overflow.overflow refl in
    subst (λ (x : Passed). IsDueInSearch c.args.poly.now x) (same_overflow c.in-Err-Overflow.overflow o e)
    (⊎_elim (λ b. inl b) (λ b. inr (inl b)) due))

pub returns-in-Err-Overflow-clause-cost : goal.returns-in-Err-Overflow-clause-cost
returns-in-Err-Overflow-clause-cost g c = no_steps c.args.poly.now c.args.steps.now

pub returns-in-Err-Memory-clause-listed : goal.returns-in-Err-Memory-clause-listed
returns-in-Err-Memory-clause-listed g c =
    not_listed c.args.poly.now (g.S.Sink.written c.args.out.now) _ _ refl ListStop.Memory (λ e. absurd (cc))
    (λ o e. absurd (cc))

pub returns-in-Err-Memory-clause-cost : goal.returns-in-Err-Memory-clause-cost
returns-in-Err-Memory-clause-cost g c = no_steps c.args.poly.now c.args.steps.now
