-- A system as a cone that is given by its fixed rows and by its other rows: it holds no line, and its
-- corners are the extreme vectors.
use Rattle.std.proofs.Common.{◌≡◌, ◌↔◌, Bool, true, false, cond, not, ℕ, pos, List, length, refl}
use Rattle.std.specs.Prelude.{◌≤ℤ◌}
use Rattle.std.specs.List.{slice_index_or}
use Rattle.poly_num.specs.Vectors.{Vector, ◌·◌}
use Rattle.poly_model.specs.Independence.{Vanish}
use Rattle.poly_model.specs.Systems.{Row, System}
use Rattle.poly_model.specs.Cones.{Meets, IsInCone, IsTight}
use Rattle.poly_model.specs.FreeColumns.{AreFreeColumns}
use Rattle.poly_model.specs.Extreme.{IsOnFace, IsShown, IsExtreme}
use Rattle.linear_laws.specs.Corners.{IsInConeOf, IsPointed, IsOnTight, IsCorner}
use Rattle.cone_laws.specs.Faces.{fixed_rows, other_rows}
use Rattle.cone_laws.proofs.RowLemmas.{entries_from_rows, rows_from_entries, IsZeroAt, fixed_vanish, zero_at_fixed, linear_from_fixed}
use Rattle.cone_laws.proofs.ColumnLemmas.{zero_from_tight}
use Rattle.cone_laws.proofs.FaceLemmas.{linear_vanish_in_cone}

abbrev is_other : Row → Bool
is_other row = not row.linear

-- ---- a row is linear or one of the others
from_either : (A : Type 0) (row : Row) → (row.linear ≡ true → A) → (is_other row ≡ true → A) → A
from_either A row f g = by row.linear f g
  where
    by : (linear : Bool) → (linear ≡ true → A) → (not linear ≡ true → A) → A
    by true f g = f refl
    by false f g = g refl

meets_from_either : (y : Vector) (row : Row) → (row.linear ≡ true → IsTight y row) →
    (is_other row ≡ true → pos 0 ≤ℤ (row.entries · y)) → Meets y row
meets_from_either y row f g = by row.linear f g
  where
    by : (linear : Bool) → (linear ≡ true → IsTight y row) → (not linear ≡ true → pos 0 ≤ℤ (row.entries · y)) →
        cond linear (IsTight y row) (pos 0 ≤ℤ (row.entries · y))
    by true f g = f refl
    by false f g = g refl

other_is_met : (y : Vector) (row : Row) → Meets y row → is_other row ≡ true → pos 0 ≤ℤ (row.entries · y)
other_is_met y row m e = by row.linear m e
  where
    by : (linear : Bool) → cond linear (IsTight y row) (pos 0 ≤ℤ (row.entries · y)) → not linear ≡ true →
        pos 0 ≤ℤ (row.entries · y)
    by true m e = absurd (cc)
    by false m e = m

module _ (sys : System) (columns : List ℕ) (f : AreFreeColumns sys columns) where
  -- ---- the cone holds no line
  pub holds_no_line : IsPointed sys.n (fixed_rows columns sys) (other_rows sys)
  holds_no_line y l v w =
      let linear = linear_from_fixed columns sys y v in
      let others = rows_from_entries (λ g. g · y ≡ pos 0) is_other sys.rows w in
      zero_from_tight sys y l
      (λ k d lt.
      let row = slice_index_or sys.rows k d in
      from_either (IsTight y row) row (linear k d lt) (others k d lt))
      (λ j q. zero_at_fixed columns sys y v j ((f.exactly j).0 q))

  -- ---- its vectors
  pub in_pointed_cone : (z : Vector) → IsInCone sys z → IsZeroAt columns z →
      IsInConeOf sys.n (fixed_rows columns sys) (other_rows sys) z
  in_pointed_cone z c h = record {
    width = c.width;
    vanishing = fixed_vanish columns sys z h (linear_vanish_in_cone sys z c);
    nonnegative =
        entries_from_rows (λ g. pos 0 ≤ℤ (g · z)) is_other sys.rows
        (λ k d lt. other_is_met z (slice_index_or sys.rows k d) (c.meets k d lt));
  }

  in_cone : (z : Vector) → IsInConeOf sys.n (fixed_rows columns sys) (other_rows sys) z → IsInCone sys z
  in_cone z c =
      let linear = linear_from_fixed columns sys z c.vanishing in
      let others = rows_from_entries (λ g. pos 0 ≤ℤ (g · z)) is_other sys.rows c.nonnegative in
      record {
        width = c.width;
        meets = λ k d lt. meets_from_either z (slice_index_or sys.rows k d) (linear k d lt) (others k d lt);
      }

  -- ---- its corners
  face_from_tight : (y z : Vector) → length z ≡ sys.n → Vanish (fixed_rows columns sys) z →
      IsOnTight y (other_rows sys) z → IsOnFace sys y z
  face_from_tight y z l v t =
      let linear = linear_from_fixed columns sys z v in
      let others = rows_from_entries (λ g. g · y ≡ pos 0 → g · z ≡ pos 0) is_other sys.rows t in
      record {
        width = l;
        free = λ j q. zero_at_fixed columns sys z v j ((f.exactly j).0 q);
        linear = linear;
        tight = λ k d lt e.
            let row = slice_index_or sys.rows k d in
            from_either (IsTight z row) row (linear k d lt) (λ o. others k d lt o e);
      }

  corner_of_extreme : (y : Vector) → IsExtreme sys y →
      IsCorner sys.n (fixed_rows columns sys) (other_rows sys) y
  corner_of_extreme y x = record {
    primitive = x.primitive;
    in_cone = in_pointed_cone y x.in_cone (λ j m. x.free j ((f.exactly j).1 m));
    alone = λ z l v t. x.alone z (face_from_tight y z l v t);
  }

  pub extreme_of_corner : (y : Vector) → IsCorner sys.n (fixed_rows columns sys) (other_rows sys) y →
      IsShown sys.kind sys y → IsExtreme sys y
  extreme_of_corner y c shown = record {
    primitive = c.primitive;
    free = λ j q. zero_at_fixed columns sys y c.in_cone.vanishing j ((f.exactly j).0 q);
    in_cone = in_cone y c.in_cone;
    alone = λ z face.
        c.alone z face.width (fixed_vanish columns sys z (λ j m. face.free j ((f.exactly j).1 m)) face.linear)
        (entries_from_rows (λ g. g · y ≡ pos 0 → g · z ≡ pos 0) is_other sys.rows
        (λ k d lt e. face.tight k d lt));
    shown = shown;
  }

  pub extreme_by_corner : (y : Vector) → IsExtreme sys y
      ↔ (IsCorner sys.n (fixed_rows columns sys) (other_rows sys) y × IsShown sys.kind sys y)
  extreme_by_corner y = (λ x. (corner_of_extreme y x, x.shown), λ h. extreme_of_corner y h.0 h.1)
