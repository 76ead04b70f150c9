-- Points and rays together: each extreme vector is shown at one place of one cobasis, and nothing else is.
use Rattle.std.proofs.Common.{◌≡◌, ℕ, List, ℤ, pos, refl, ap, arith}
use Rattle.std.specs.Prelude.{◌<ℤ◌, ◌≤ℤ◌, Option, None, Some}
use Rattle.std.proofs.lemmas.Int.{by_lt_z}
use Rattle.poly_num.specs.Vectors.{Vector, ◌·◌}
use Rattle.poly_num.proofs.Ring.{lin}
use Rattle.poly_num.proofs.Order.{positive_nonzero}
use Rattle.poly_model.specs.Spaces.{Space}
use Rattle.poly_model.specs.Dictionaries.{Table}
use Rattle.poly_model.specs.LexOrder.{rows_in}
use Rattle.poly_model.specs.Tree.{IsRowDictionary, IsFeasibleRoot, IsLexFeasible, IsShownAt, IsExtremeIn}
use Rattle.linear_laws.specs.Distinct.{AreDistinct}
use Rattle.tree_laws.specs.Shown.{IsShownOnce}
use Rattle.tree_laws.specs.ShownPoints.{IsPointOnce}
use Rattle.tree_laws.specs.ShownRays.{IsRayOnce}
use Rattle.tree_laws.proofs.PointTest.{shown_point_is_feasible, constants_are_not_negative}
use Rattle.tree_laws.proofs.PointValues.{point_is_extreme}
use Rattle.tree_laws.proofs.OnePoint as point
use Rattle.tree_laws.proofs.SomePoint.{some_key}
use Rattle.tree_laws.proofs.RayValues.{ray_is_extreme}
use Rattle.tree_laws.proofs.OneRay as ray
use Rattle.tree_laws.proofs.SomeRay.{some_ray_key}

module _ (space : Space) (root : List ℕ) (home : Table) (y : Vector) (extreme : IsExtremeIn space y) where
  pub point_once : IsRowDictionary space root home → AreDistinct (rows_in space.labels) →
      pos 0 <ℤ (space.infinity · y) →
      IsPointOnce space root y
  point_once h distinct up =
      let k = some_key space root home h distinct y extreme up in
      record {
        key = k.key;
        table = k.table;
        feasible = shown_point_is_feasible space root k.key home k.table h k.feasible k.shown;
        shown = (k.shown, k.point);
        only = λ other u d s.
            point.one_key space root y other k.key u k.table d k.feasible.dictionary s.0 k.shown s.1 k.point;
      }

  pub ray_once : IsFeasibleRoot space root home → space.infinity · y ≡ pos 0 → IsRayOnce space root y
  ray_once h level =
      let k = some_ray_key space root y extreme level home h in
      record {
        key = k.key;
        table = k.table;
        column = k.column;
        feasible = k.feasible;
        shown = k.shown;
        only = λ other u r f s. (
          ray.one_key space root home h.dictionary y other k.key u k.table r k.column f k.feasible s.0 k.shown.0 s.1
              k.shown.1,
          ray.one_column space root home h.dictionary y other k.key u k.table r k.column f k.feasible s.0 k.shown.0 s.1
              k.shown.1,
        );
      }

  -- infinity tells points from rays
  as_point : (pos 0 <ℤ (space.infinity · y)) → IsPointOnce space root y → IsShownOnce space root y
  as_point up k = record {
    key = k.key;
    table = k.table;
    place = None;
    feasible = k.feasible;
    shown = k.shown;
    only = only;
  }
    where
      only : (other : List ℕ) (u : Table) (p : Option ℕ) → IsLexFeasible space root other u →
          IsShownAt space root other u p y → (other ≡ k.key) × (p ≡ None)
      only other u None f s = (k.only other u f.dictionary s, refl)
      only other u (Some r) f s = absurd (positive_nonzero (space.infinity · y) up s.1.level)

  as_ray : space.infinity · y ≡ pos 0 → IsRayOnce space root y → IsShownOnce space root y
  as_ray level k = record {
    key = k.key;
    table = k.table;
    place = Some k.column;
    feasible = k.feasible;
    shown = k.shown;
    only = only;
  }
    where
      only : (other : List ℕ) (u : Table) (p : Option ℕ) → IsLexFeasible space root other u →
          IsShownAt space root other u p y → (other ≡ k.key) × (p ≡ Some k.column)
      only other u None f s = absurd (positive_nonzero (space.infinity · y) s.1.finite level)
      only other u (Some r) f s = let e = k.only other u r f s in (e.0, ap Some e.1)

  pub shown_once : IsFeasibleRoot space root home → AreDistinct (rows_in space.labels) → IsShownOnce space root y
  shown_once h distinct =
      by_lt_z (pos 0) (space.infinity · y)
      (λ up. as_point up (point_once h.dictionary distinct up))
      (λ down. let level : space.infinity · y ≡ pos 0 = none (space.infinity · y) down extreme.finite in
      as_ray level (ray_once h level))
    where
      none : (x : ℤ) → x ≤ℤ pos 0 → pos 0 ≤ℤ x → x ≡ pos 0
      none x h k = omega (arith, lin)

pub only_extreme : (space : Space) (root key : List ℕ) (t : Table) (p : Option ℕ) (y : Vector) →
    IsLexFeasible space root key t → IsShownAt space root key t p y → IsExtremeIn space y
only_extreme space root key t None y f s =
    point_is_extreme space key t y (constants_are_not_negative space root key t f) s.1
only_extreme space root key t (Some r) y f s = ray_is_extreme space root key t r y f.dictionary s.0 s.1
