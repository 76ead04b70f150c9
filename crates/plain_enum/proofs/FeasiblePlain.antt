-- Where a search begins: what is under the empty prefix, and whether some extreme vector has a positive first entry.
use Rattle.std.proofs.Common.{◌≡◌, ◌↔◌, true, false, ℕ, ◌-◌, pos, ◌<ℤ◌, List, [], length, IsTrue, refl, sym, subst, arith}
use Rattle.std.specs.List.{Contains}
use Rattle.std.proofs.lemmas.List.Elements.{Contains-append_left}
use Rattle.poly_num.specs.Vectors.{Vector}
use Rattle.poly_model.specs.Cones.{at as entry}
use Rattle.poly_model.specs.Extreme.{IsExtreme}
use Rattle.poly_model.specs.Systems.{System, Polyhedron, cone_of}
use Rattle.cone_laws.specs.FeasibilityLaws.{HasVertex}
use Rattle.dictionary.specs.Views.{Dictionary}
use Rattle.listing_laws.specs.ListedCone.{IsShownCorner}
use Rattle.listing_laws.specs.Lists.{Lists, Begins}
use Rattle.listing_laws.specs.Prefixes.{IsCornerUnder}
use Rattle.listing_laws.proofs.ConeLemmas.{extreme_is_shown_corner}
use Rattle.plain_enum.specs.Begin.{IsBegun, fixed_in, begun_cone, left_in}
use Rattle.plain_enum.specs.Columns.{LeavesNoCoordinate, IsLeftCoordinate}
use Rattle.plain_enum.specs.Listed.{IsAt}
use Rattle.plain_enum.proofs.BeginAt.{begins_at, is_cone, left_has, zero_where_none}

module _ (p : Polyhedron) (at last : Dictionary) (free : List ℕ) (b : IsBegun p at last free) where
  -- ---- where a coordinate is left
  pub begins : (sys : System) → sys ≡ cone_of p → (from depth : ℕ) → from ≡ 1 →
      depth ≡ length (left_in free at.key) - 1 → (k : ℕ) → IsLeftCoordinate at free k →
      IsAt sys free at from depth p (begun_cone p free at) (fixed_in (cone_of p).rows free at.key)
      (left_in free at.key) []
  begins sys file from depth first count k some =
      let c = left_has p at last free b k some.inside some.coordinate some.not_free in
      let within = c.1 in
      subst
      (λ i. IsAt sys free at i depth p (begun_cone p free at) (fixed_in (cone_of p).rows free at.key)
      (left_in free at.key) []) (sym first)
      (begins_at p at last free b sys depth file (omega (arith, count)))

  -- ---- where none is left
  -- no vector is extreme
  pub nothing_under : LeavesNoCoordinate at free → (y : Vector) → IsCornerUnder (begun_cone p free at) [] y → ⊥
  nothing_under none y u =
      u.0.corner.primitive.0
      (zero_where_none p at last free b none y u.0.corner.in_cone.width u.0.corner.in_cone.vanishing)

  -- ---- what a search for a point tells: every shown corner is under the empty prefix
  shown : (y : Vector) → IsExtreme (cone_of p) y ↔ IsShownCorner (begun_cone p free at) y
  shown = extreme_is_shown_corner (cone_of p) (begun_cone p free at) (is_cone p at last free b)

  -- where all were visited, and none of them has a positive first entry
  pub no_vertex : (xs : List Vector) → Lists (IsCornerUnder (begun_cone p free at) []) xs →
      ((y : Vector) → Contains xs y → ¬ (pos 0 <ℤ entry 0 y)) → IsTrue false ↔ HasVertex (cone_of p)
  no_vertex xs l none = (
    λ (e : false ≡ true). absurd (cc),
    λ v. absurd (none v.vector ((l.members v.vector).1 ((shown v.vector).0 v.extreme, tt)) v.positive),
  )

  -- where one of them has
  pub some_vertex : (xs : List Vector) → Begins (IsCornerUnder (begun_cone p free at) []) xs → (y : Vector) → Contains xs y →
      pos 0 <ℤ entry 0 y → IsTrue true ↔ HasVertex (cone_of p)
  some_vertex xs l y c positive = (
    λ t. record {
      vector = y;
      extreme = (shown y).1 ((l.1.members y).0 (Contains-append_left xs l.0 y c)).0;
      positive = positive;
    },
    λ v. refl,
  )
