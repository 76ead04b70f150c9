-- Where a file is not listed, nothing is written; and where a number passes at its listing.
use Rattle.std.proofs.Common.{◌≡◌, inl, inr, ℕ, List, Option, Err, refl, subst}
use Rattle.poly_model.specs.declared.overflow.Overflow.{Overflow as Passed}
use Rattle.poly_model.specs.Extreme.{IsFeasible}
use Rattle.poly_model.specs.Systems.{Polyhedron, cone_of}
use Rattle.linearity.proofs.Errors.{one_error}
use Rattle.row_printer.specs.declared.stop.ListStop.{ListStop}
use Rattle.row_printer.specs.declared.stop.ListStop.TheVariants.{Infeasible, Overflow}
use Rattle.row_printer.specs.Listings.{WritesListing, ListsIfFeasible}
use Rattle.plain_enum.specs.Plain.{PassesInCone}
use Rattle.plain_enum.proofs.ListingParts.{nothing_written}

pub nothing_listed : (p : Polyhedron) (old : Option (List ℕ)) (Unwritten : Type 0) → Unwritten → (stop : ListStop) →
    (stop ≡ Infeasible → ¬ (IsFeasible (cone_of p))) → ((o : Passed) → stop ≡ Overflow o → PassesInCone p o) →
    ListsIfFeasible p old old Unwritten (PassesInCone p) (Err stop)
nothing_listed p old Unwritten unwritten stop infeasible overflow = record {
  written = nothing_written p old (Err stop) refl;
  feasible = λ e. absurd (cc);
  infeasible = λ e. infeasible (one_error (Err stop) Infeasible stop e refl);
  overflow = λ o e. overflow o (one_error (Err stop) (Overflow o) stop e refl);
  printed = inl unwritten;
}

-- ---- where a number passes at the listing
other_stop : (x : Passed) → Overflow x ≡ Infeasible → ⊥
other_stop x e = cc

same_overflow : (x o : Passed) → Overflow x ≡ Overflow o → x ≡ o
same_overflow x o e = cc

pub passes_listed : {E : Type 0} (p : Polyhedron) (old new : Option (List ℕ)) (Unwritten : Type 0) (x : Passed)
    (e : E) →
    IsFeasible (cone_of p) → PassesInCone p x → WritesListing {E = E} p old new (Err e) →
    ListsIfFeasible p old new Unwritten (PassesInCone p) (Err (Overflow x))
passes_listed p old new Unwritten x e feasible passes w = record {
  written = record { whole = tt; part = w.part };
  feasible = λ h. absurd (cc);
  infeasible = λ h. absurd (other_stop x (one_error (Err (Overflow x)) Infeasible (Overflow x) h refl));
  overflow = λ o h. subst (λ (y : Passed). PassesInCone p y)
      (same_overflow x o (one_error (Err (Overflow x)) (Overflow o) (Overflow x) h refl)) passes;
  printed = inr feasible;
}
