-- The corners under a prefix at which all that is left is along one vector: they are along it, and there is one at
-- most.
use Rattle.std.proofs.Common.{◌≡◌, ◌⊎◌, ⊎_elim, Bool, ℤ, pos, neg_ℤ, List, [], ◌∷◌, map, subst, arith}
use Rattle.std.specs.Prelude.{◌≤ℤ◌}
use Rattle.std.proofs.lemmas.Int.{ints}
use Rattle.std.specs.List.{AllByRecursion}
use Rattle.poly_num.specs.Vectors.{Vector, ◌·◌, IsZero, IsPrimitive, IsMultipleOf}
use Rattle.poly_num.proofs.VectorLemmas.{dot-neg}
use Rattle.poly_model.specs.Independence.{Vanish, IsAlone}
use Rattle.linear_laws.specs.LocalTest.{AreFirstTight}
use Rattle.linear_laws.specs.Corners.{IsInConeOf}
use Rattle.linear_laws.proofs.PrimitiveAlong.{primitive_up_to_sign}
use Rattle.linear_laws.proofs.Proportions.{multiple_along, factor_nonzero}
use Rattle.listing_laws.specs.ListedCone.{ListedCone, IsListable}
use Rattle.listing_laws.specs.Lists.{Lists}
use Rattle.listing_laws.specs.Prefixes.{taken_at, IsCornerUnder}
use Rattle.listing_laws.specs.Directions.{IsShownAlong}
use Rattle.listing_laws.proofs.FirstLists.{vanish_taken, vanish_on_tight}
use Rattle.listing_laws.proofs.ListLemmas.{lists_none, lists_one}

-- ---- a vector and its opposite
zero_from_signs : (x w : ℤ) → w ≡ neg_ℤ x → pos 0 ≤ℤ x → pos 0 ≤ℤ w → x ≡ pos 0
zero_from_signs x w e a b = omega (arith, ints)

vanish_from_signs : (y : Vector) (gs : List Vector) → AllByRecursion (λ g. pos 0 ≤ℤ (g · y)) gs →
    AllByRecursion (λ g. pos 0 ≤ℤ (g · map neg_ℤ y)) gs → Vanish gs y
vanish_from_signs y [] a b = tt
vanish_from_signs y (g ∷ gs) a b =
    (zero_from_signs (g · y) (g · map neg_ℤ y) (dot-neg g y) a.0 b.0, vanish_from_signs y gs a.1 b.1)

pub one_sign : (cone : ListedCone) → IsListable cone → (y : Vector) →
    IsInConeOf cone.n cone.base cone.rows y → IsInConeOf cone.n cone.base cone.rows (map neg_ℤ y) → IsZero y
one_sign cone listable y a b =
    listable.pointed y a.width a.vanishing (vanish_from_signs y cone.rows a.nonnegative b.nonnegative)

-- ---- along z
multiple : (y w z : Vector) → (IsZero y → ⊥) → IsMultipleOf z y → IsMultipleOf z w → IsMultipleOf y w
multiple y w z nz (p, q, np, e) (c, d, nc, f) = multiple_along p q c d w y z (factor_nonzero p q y z np nz e) nc e f

pub up_to_sign : (y w z : Vector) → IsPrimitive y → IsMultipleOf z y → IsPrimitive w → IsMultipleOf z w →
    (w ≡ y) ⊎ (w ≡ map neg_ℤ y)
up_to_sign y w z p m q k = primitive_up_to_sign y w p q (multiple y w z p.0 m k)

module _ (cone : ListedCone) (marks : List Bool) (z : Vector) (alone : IsAlone cone.n (taken_at cone marks) z) where
  pub shown_along : (y : Vector) → IsCornerUnder cone marks y → IsShownAlong cone z y
  shown_along y u =
      let c = u.0.corner in
      let v = vanish_taken cone.n cone.base y cone.rows marks c.in_cone.vanishing u.1 in
      record {
        primitive = c.primitive;
        along = alone y c.in_cone.width v;
        in_cone = c.in_cone;
        shown = u.0.shown;
      }

  pub under_if_first : (y : Vector) → IsShownAlong cone z y → AreFirstTight cone.n cone.base y cone.rows marks →
      IsCornerUnder cone marks y
  under_if_first y a f = (
    record {
      corner = record {
        primitive = a.primitive;
        in_cone = a.in_cone;
        alone = λ w l v t.
            multiple y w z a.primitive.0 a.along
            (alone w l (vanish_on_tight cone.n cone.base y w cone.rows marks f v t));
      };
      shown = a.shown;
    },
    f,
  )

  pub list_of_one : IsListable cone → (y : Vector) → IsCornerUnder cone marks y →
      Lists (IsCornerUnder cone marks) (y ∷ [])
  list_of_one listable y u = lists_one (IsCornerUnder cone marks) y u (λ w v. only w (shown_along w v))
    where
      a : IsShownAlong cone z y
      a = shown_along y u

      only : (w : Vector) → IsShownAlong cone z w → w ≡ y
      only w b =
          ⊎_elim (λ e. e)
          (λ e. absurd (a.primitive.0
          (one_sign cone listable y a.in_cone (subst (IsInConeOf cone.n cone.base cone.rows) e b.in_cone))))
          (up_to_sign y w z a.primitive a.along b.primitive b.along)

  pub list_of_none : (y : Vector) → IsPrimitive y → IsMultipleOf z y → (IsCornerUnder cone marks y → ⊥) →
      (IsCornerUnder cone marks (map neg_ℤ y) → ⊥) → Lists (IsCornerUnder cone marks) []
  list_of_none y p m h k = lists_none (IsCornerUnder cone marks) (λ w u. none w u (shown_along w u))
    where
      none : (w : Vector) → IsCornerUnder cone marks w → IsShownAlong cone z w → ⊥
      none w u b =
          ⊎_elim (λ e. h (subst (IsCornerUnder cone marks) e u)) (λ e. k (subst (IsCornerUnder cone marks) e u))
          (up_to_sign y w z p m b.primitive b.along)
