-- The list of the corners under the empty prefix is the listing, and tells whether an H file is feasible.
use Rattle.std.proofs.Common.{◌≡◌, ◌≢◌, ◌↔◌, ℕ, zero, suc, ◌<◌, List, [], ◌∷◌, length, subst, sym, arith}
use Rattle.std.specs.List.{Contains, slice_index_or}
use Rattle.std.proofs.lemmas.List.Elements.{All-from_recursion, All-contains, Contains-get_or}
use Rattle.poly_num.specs.Vectors.{Vector}
use Rattle.poly_model.specs.declared.kind.Kind.TheVariants.{H}
use Rattle.poly_model.specs.Systems.{Polyhedron, System, cone_of}
use Rattle.poly_model.specs.Extreme.{IsExtreme, IsFeasible, AreExtreme}
use Rattle.linear_laws.specs.Distinct.{AreDistinct}
use Rattle.cone_laws.specs.FeasibilityLaws.{HasVertex, IsFlatAtInfinity}
use Rattle.cone_laws.proofs.FeasibleLemmas.{feasible_by_vertex, feasible_file_by_vertex}
use Rattle.listing_laws.specs.ConeLaws.{HasShownVertex, HasListedVertex}
use Rattle.listing_laws.specs.ListedCone.{ListedCone, IsConeOf}
use Rattle.listing_laws.specs.Lists.{Lists}
use Rattle.listing_laws.specs.Prefixes.{IsCornerUnder}
use Rattle.listing_laws.proofs.ConeLemmas.{extreme_is_shown_corner}
use Rattle.listing_laws.proofs.ListLemmas.{all_members, lists_same}

once_at : (ys : List Vector) → AreDistinct ys → (i j : ℕ) → i < j → j < length ys →
    slice_index_or ys i [] ≢ slice_index_or ys j []
once_at [] d i j a b e = absurd (omega arith)
once_at (y ∷ ys) d i zero a b e = absurd (omega arith)
once_at (y ∷ ys) d zero (suc j) a b e =
    d.0 (subst (Contains ys) (sym e) (Contains-get_or ys j [] (omega arith)))
once_at (y ∷ ys) d (suc i) (suc j) a b e = once_at ys d.1 i j (omega arith) (omega arith) e

-- a list of the extreme vectors, each once
pub are_extreme : (sys : System) (shown : List Vector) → Lists (IsExtreme sys) shown → AreExtreme sys shown
are_extreme sys shown l = record {
  once = once_at shown l.distinct;
  only = All-from_recursion (IsExtreme sys) shown
      (all_members (IsExtreme sys) shown (λ y c. (l.members y).0 c));
  every = λ y x. (l.members y).1 x;
}

-- so are the corners under the empty prefix
pub lists_extreme : (sys : System) (cone : ListedCone) → IsConeOf sys cone → (shown : List Vector) →
    Lists (IsCornerUnder cone []) shown → Lists (IsExtreme sys) shown
lists_extreme sys cone is shown l =
    let same = extreme_is_shown_corner sys cone is in
    lists_same (IsCornerUnder cone []) (IsExtreme sys) shown l (λ y. (λ c. (same y).1 c.0, λ x. ((same y).0 x, tt)))

pub whole_listing : (sys : System) (cone : ListedCone) → IsConeOf sys cone → (shown : List Vector) →
    Lists (IsCornerUnder cone []) shown → AreExtreme sys shown
whole_listing sys cone is shown l = are_extreme sys shown (lists_extreme sys cone is shown l)

-- ---- feasible
module _ (sys : System) (shown : List Vector) (are : AreExtreme sys shown) where
  listed_vertex : HasVertex sys → HasListedVertex shown
  listed_vertex v = record { vector = v.vector; listed = are.every v.vector v.extreme; positive = v.positive }

  vertex : HasListedVertex shown → HasVertex sys
  vertex v = record {
    vector = v.vector;
    extreme = All-contains (IsExtreme sys) shown v.vector are.only v.listed;
    positive = v.positive;
  }

module _ (sys : System) (cone : ListedCone) (is : IsConeOf sys cone) where
  shown_vertex : HasVertex sys → HasShownVertex cone
  shown_vertex v = record {
    vector = v.vector;
    corner = (extreme_is_shown_corner sys cone is v.vector).0 v.extreme;
    positive = v.positive;
  }

  vertex_of_corner : HasShownVertex cone → HasVertex sys
  vertex_of_corner v = record {
    vector = v.vector;
    extreme = (extreme_is_shown_corner sys cone is v.vector).1 v.corner;
    positive = v.positive;
  }

pub feasible_by_corners : (sys : System) → sys.kind ≡ H → IsFlatAtInfinity sys →
    (cone : ListedCone) → IsConeOf sys cone → IsFeasible sys ↔ HasShownVertex cone
feasible_by_corners sys kind flat cone is =
    let h = feasible_by_vertex sys kind flat in
    (λ f. shown_vertex sys cone is (h.0 f), λ v. h.1 (vertex_of_corner sys cone is v))

pub feasible_by_listing : (sys : System) → sys.kind ≡ H → IsFlatAtInfinity sys →
    (shown : List Vector) → AreExtreme sys shown → IsFeasible sys ↔ HasListedVertex shown
feasible_by_listing sys kind flat shown are =
    let h = feasible_by_vertex sys kind flat in
    (λ f. listed_vertex sys shown are (h.0 f), λ v. h.1 (vertex sys shown are v))

pub feasible_file_by_listing : (p : Polyhedron) → p.kind ≡ H →
    (shown : List Vector) → AreExtreme (cone_of p) shown → IsFeasible (cone_of p) ↔ HasListedVertex shown
feasible_file_by_listing p kind shown are =
    let h = feasible_file_by_vertex p kind in
    (λ f. listed_vertex (cone_of p) shown are (h.0 f), λ v. h.1 (vertex (cone_of p) shown are v))
