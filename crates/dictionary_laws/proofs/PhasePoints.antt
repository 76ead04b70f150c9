-- The spaces of the phases that have a point whatever the file says.
use Rattle.std.proofs.Common.{◌≡◌, ℕ, zero, suc, ◌<◌, List, [], ◌∷◌, ℤ, pos, ◌+ℤ◌, ◌*ℤ◌, sym, ap, ◌∙◌, arith}
use Rattle.std.proofs.lemmas.Int.{ints}
use Rattle.poly_num.specs.Vectors.{Vector, ◌·◌}
use Rattle.poly_model.specs.declared.kind.Kind.{Kind}
use Rattle.poly_model.specs.declared.kind.Kind.TheVariants.{H, V}
use Rattle.poly_model.specs.Systems.{Row, Polyhedron}
use Rattle.poly_model.specs.Spaces.{Space, IsInside, with_constants, without_constants, cut_space, lifted, HasPoints}
use Rattle.dictionary_laws.specs.Points.{ArePhasePoints}
use Rattle.dictionary_laws.proofs.Directions.{vanish_zero}
use Rattle.dictionary_laws.proofs.InFront.{vanish_in_front}
use Rattle.linear_laws.proofs.Entries.{zeros, length-zeros, IsZero-zeros}

point_with_constants : (n : ℕ) (rows : List Row) → 0 < n → HasPoints (with_constants n [] rows)
point_with_constants zero rows l = absurd (omega arith)
point_with_constants (suc n) rows l = record {
  vector = pos 1 ∷ zeros n;
  inside = record { width = ap suc (length-zeros n); fixed = tt };
  finite = λ e. omega (arith, ints, e);
}

point_without_constants : (n : ℕ) (fixed : List Vector) (rows : List Row) →
    HasPoints (without_constants n fixed rows)
point_without_constants n fixed rows = record {
  vector = pos 1 ∷ zeros n;
  inside = record {
    width = ap suc (length-zeros n);
    fixed = vanish_in_front fixed (pos 1) (zeros n) (vanish_zero fixed (zeros n) (IsZero-zeros n));
  };
  finite = λ e. omega (arith, ints, e);
}

point_of_prepare : (kind : Kind) (p : Polyhedron) → 0 < p.n → HasPoints (cut_space kind p [])
point_of_prepare H p l = point_with_constants p.n _ l
point_of_prepare V p l = point_without_constants p.n [] _

-- other labels, same points
point_of_labels : (space : Space) (labels : List ℕ) → HasPoints space →
    HasPoints (record space { labels = labels })
point_of_labels space labels p = record {
  vector = p.vector;
  inside = record { width = IsInside.width p.inside; fixed = IsInside.fixed p.inside };
  finite = p.finite;
}

point_of_cut : (kind : Kind) (p : Polyhedron) (fixed : List Vector) → kind ≡ V →
    HasPoints (cut_space kind p fixed)
point_of_cut H p fixed e = absurd (cc)
point_of_cut V p fixed e = point_without_constants p.n fixed _

pub point_of_lifted : (space : Space) (start : List ℕ) → HasPoints space → HasPoints (lifted space start)
point_of_lifted space start p = record {
  vector = pos 0 ∷ p.vector;
  inside = record {
    width = ap suc (IsInside.width p.inside);
    fixed = vanish_in_front space.fixed (pos 0) p.vector (IsInside.fixed p.inside);
  };
  finite = λ e. p.finite (sym (front (space.infinity · p.vector)) ∙ e);
}
  where
    front : (x : ℤ) → pos 0 *ℤ pos 0 +ℤ x ≡ x
    front x = omega (arith, ints)

pub phase_points : (p : Polyhedron) → ArePhasePoints p
phase_points p = record {
  cone = point_without_constants p.n [] _;
  prepare = point_of_prepare p.kind p;
  main = λ free e. point_of_labels (cut_space p.kind p _) _ (point_of_cut p.kind p _ e);
  lifted = point_of_lifted;
}
