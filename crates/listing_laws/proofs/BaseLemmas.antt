-- The cone of a system over the first basis of its fixed rows, and over nothing where no row is fixed.
use Rattle.std.proofs.Common.{◌≡◌, ◌↔◌, Bool, true, false, cond, ℕ, List, [], ◌∷◌, refl, ap}
use Rattle.std.specs.List.{All, Any, list_any}
use Rattle.std.proofs.lemmas.List.Folds.{Any-from_list_any, list_any-from_Any}
use Rattle.poly_num.specs.Vectors.{Vector, ◌·◌}
use Rattle.poly_model.specs.declared.kind.Kind.{Kind}
use Rattle.poly_model.specs.declared.kind.Kind.TheVariants.{H, V}
use Rattle.poly_model.specs.Independence.{IsFirstBasis, taken}
use Rattle.poly_model.specs.Systems.{Row, System}
use Rattle.poly_model.specs.FreeColumns.{AreFreeColumns}
use Rattle.poly_model.specs.Extreme.{TouchesPoint, IsShown}
use Rattle.linear_laws.specs.NewRows.{AreNew}
use Rattle.linear_laws.proofs.Members.{Contains-nil, both_true}
use Rattle.linear_laws.proofs.FirstBases.{taken_enough, taken_of}
use Rattle.cone_laws.specs.Faces.{is_zero, fixed_rows}
use Rattle.cone_laws.proofs.RowLemmas.{is_zero-true, fixed_vanish, zero_at_fixed, linear_from_fixed}
use Rattle.listing_laws.specs.ListedCone.{IsConeOf, shows_of, cone_over}

-- ---- a first basis is independent
pub first_basis_is_new : (n : ℕ) (before gs : List Vector) (marks : List Bool) → AreNew n before →
    IsFirstBasis n before gs marks → AreNew n (taken before gs marks)
first_basis_is_new n before [] marks a f = a
first_basis_is_new n before (g ∷ gs) [] a f = a
first_basis_is_new n before (g ∷ gs) (true ∷ marks) a f = first_basis_is_new n (g ∷ before) gs marks (f.0, a) f.1
first_basis_is_new n before (g ∷ gs) (false ∷ marks) a f = first_basis_is_new n before gs marks a f.1

-- ---- what is shown
cond_from_both : (b c : Bool) → b ≡ true → c ≡ true → cond b c false ≡ true
cond_from_both true c e f = f
cond_from_both false c e f = absurd (cc)

-- a point row that is tight at y
abbrev is_tight_point : Vector → Row → Bool
is_tight_point y row = cond row.point (is_zero (row.entries · y)) false

pub shows_is_shown : (kind : Kind) (sys : System) (y : Vector) → (shows_of kind sys.rows y ≡ true) ↔ IsShown kind sys y
shows_is_shown H sys y = (λ e. tt, λ t. refl)
shows_is_shown V sys y = (λ e. touches (Any-from_list_any (is_tight_point y) sys.rows e), λ t. passes t)
  where
    touches : Any (λ row. is_tight_point y row ≡ true) sys.rows → TouchesPoint sys y
    touches (k, row, l, e, p) =
        let h = both_true row.point (is_zero (row.entries · y)) p in
        record { row = row; within = (k, l, e); point = h.0; tight = is_zero-true (row.entries · y) h.1 }

    passes : TouchesPoint sys y → list_any (is_tight_point y) sys.rows ≡ true
    passes t =
        let h = cond_from_both t.row.point (is_zero (t.row.entries · y)) t.point (ap is_zero t.tight) in
        let c = t.within in
        list_any-from_Any (is_tight_point y) sys.rows (c.0, t.row, c.1, c.2, h)

-- ---- the base
pub first_basis_is_base : (sys : System) (columns : List ℕ) (marks : List Bool) → AreFreeColumns sys columns →
    IsFirstBasis sys.n [] (fixed_rows columns sys) marks →
    IsConeOf sys (cone_over (taken [] (fixed_rows columns sys) marks) sys)
first_basis_is_base sys columns marks f first = record {
  width = refl;
  independent = first_basis_is_new sys.n [] (fixed_rows columns sys) marks tt first;
  fixed = λ z l. (
    λ v. let w = (taken_enough sys.n [] (fixed_rows columns sys) marks first z l v).1 in
        (λ j q. zero_at_fixed columns sys z w j ((f.exactly j).0 q), linear_from_fixed columns sys z w),
    λ h. taken_of [] (fixed_rows columns sys) marks z tt
        (fixed_vanish columns sys z (λ j m. h.0 j ((f.exactly j).1 m)) h.1),
  );
  rows = refl;
  shows = shows_is_shown sys.kind sys;
}

pub nothing_is_base : (sys : System) → AreFreeColumns sys [] → All (λ row. row.linear ≡ true → ⊥) sys.rows →
    IsConeOf sys (cone_over [] sys)
nothing_is_base sys f none = record {
  width = refl;
  independent = tt;
  fixed = λ z l. (
    λ v. (λ j q. absurd (Contains-nil j ((f.exactly j).0 q)), λ k d lt e. absurd (none k d lt e)),
    λ h. tt,
  );
  rows = refl;
  shows = shows_is_shown sys.kind sys;
}
