-- The cone of a system: it is listable, and its shown corners are the extreme vectors.
use Rattle.std.proofs.Common.{◌≡◌, ◌↔◌, Bool, true, false, cond, ℤ, pos, length, refl, sym, ◌∙◌, subst, arith}
use Rattle.std.specs.Prelude.{◌≤ℤ◌}
use Rattle.std.proofs.lemmas.Int.{ints}
use Rattle.std.specs.List.{AllByRecursion, All}
use Rattle.poly_num.specs.Vectors.{Vector, ◌·◌}
use Rattle.poly_model.specs.Systems.{System}
use Rattle.poly_model.specs.Cones.{IsInCone}
use Rattle.poly_model.specs.FreeColumns.{IsZeroAtFree}
use Rattle.poly_model.specs.Extreme.{IsExtreme}
use Rattle.linear_laws.specs.Corners.{IsInConeOf, IsPointed}
use Rattle.cone_laws.proofs.RowLemmas.{forms_from_rows, rows_from_forms}
use Rattle.cone_laws.proofs.FaceLemmas.{linear_vanish_in_cone}
use Rattle.cone_laws.proofs.ColumnLemmas.{zero_from_tight}
use Rattle.listing_laws.specs.ListedCone.{ListedCone, IsListable, IsShownCorner, IsConeOf}

-- ---- one row
nonnegative_if_met : (linear : Bool) (x : ℤ) → cond linear (x ≡ pos 0) (pos 0 ≤ℤ x) → pos 0 ≤ℤ x
nonnegative_if_met true x e = omega (arith, ints)
nonnegative_if_met false x l = l

met_from_both : (linear : Bool) (x : ℤ) → (linear ≡ true → x ≡ pos 0) → pos 0 ≤ℤ x →
    cond linear (x ≡ pos 0) (pos 0 ≤ℤ x)
met_from_both true x e l = e refl
met_from_both false x e l = l

module _ (sys : System) (cone : ListedCone) (is : IsConeOf sys cone) where
  -- ---- all rows
  pub all_rows : (P : Vector → Type 0) → All (λ row. P row.entries) sys.rows → AllByRecursion P cone.rows
  all_rows P h = subst (AllByRecursion P) (sym is.rows) (forms_from_rows P sys h)

  pub each_row : (P : Vector → Type 0) → AllByRecursion P cone.rows → All (λ row. P row.entries) sys.rows
  each_row P h = rows_from_forms P sys (subst (AllByRecursion P) is.rows h)

  -- ---- no line
  pub is_pointed : IsPointed cone.n cone.base cone.rows
  is_pointed y l v w =
      zero_from_tight sys y (l ∙ is.width) (each_row (λ g. g · y ≡ pos 0) w) ((is.fixed y l).0 v).0

  pub is_listable : IsListable cone
  is_listable = record { independent = is.independent; pointed = is_pointed }

  -- ---- the vectors of the cone
  into_cone : (y : Vector) → IsZeroAtFree sys y → IsInCone sys y → IsInConeOf cone.n cone.base cone.rows y
  into_cone y free c =
      let w : length y ≡ cone.n = c.width ∙ sym is.width in
      record {
        width = w;
        vanishing = (is.fixed y w).1 (free, linear_vanish_in_cone sys y c);
        nonnegative = all_rows (λ g. pos 0 ≤ℤ (g · y)) (λ k d lt. nonnegative_if_met _ _ (c.meets k d lt));
      }

  out_of_cone : (y : Vector) → IsInConeOf cone.n cone.base cone.rows y → IsInCone sys y
  out_of_cone y c =
      let linear = ((is.fixed y c.width).0 c.vanishing).1 in
      let nonnegative = each_row (λ g. pos 0 ≤ℤ (g · y)) c.nonnegative in
      record {
        width = c.width ∙ is.width;
        meets = λ k d lt. met_from_both _ _ (linear k d lt) (nonnegative k d lt);
      }

  -- ---- its corners
  pub extreme_is_shown_corner : (y : Vector) → IsExtreme sys y ↔ IsShownCorner cone y
  extreme_is_shown_corner y = (
    λ x. record {
      corner = record {
        primitive = x.primitive;
        in_cone = into_cone y x.free x.in_cone;
        alone = λ z l v t. x.alone z (record {
          width = l ∙ is.width;
          free = ((is.fixed z l).0 v).0;
          linear = ((is.fixed z l).0 v).1;
          tight = each_row (λ g. g · y ≡ pos 0 → g · z ≡ pos 0) t;
        });
      };
      shown = (is.shows y).1 x.shown;
    },
    λ c. record {
      primitive = c.corner.primitive;
      free = ((is.fixed y c.corner.in_cone.width).0 c.corner.in_cone.vanishing).0;
      in_cone = out_of_cone y c.corner.in_cone;
      alone = λ z face.
          let l : length z ≡ cone.n = face.width ∙ sym is.width in
          c.corner.alone z l ((is.fixed z l).1 (face.free, face.linear))
          (all_rows (λ g. g · y ≡ pos 0 → g · z ≡ pos 0) face.tight);
      shown = (is.shows y).0 c.shown;
    },
  )
