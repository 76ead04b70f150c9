-- The linear rows of a file, at the vectors of its main space: they are 0 there. So the equations of a feasible file have
-- a common point, and of a V file each ray touches a point row that is linear.
use Rattle.std.proofs.Common.{◌≡◌, ℕ, ◌-◌, ◌<◌, ◌≤◌, true, List, [], ◌∷◌, pos, map, length, get_or, sym, ap, subst, ◌∙◌, arith}
use Rattle.std.specs.List.{All, Contains}
use Rattle.std.proofs.lemmas.Bool.{lt-ltb, cond-true}
use Rattle.std.proofs.lemmas.List.{length-append}
use Rattle.std.proofs.lemmas.List.Elements.{Contains-get_or}
use Rattle.poly_num.specs.Vectors.{Vector, ◌·◌}
use Rattle.poly_model.specs.declared.kind.Kind.{Kind}
use Rattle.poly_model.specs.declared.kind.Kind.TheVariants.{H, V}
use Rattle.poly_model.specs.Cones.{coordinate, IsTight}
use Rattle.poly_model.specs.Equations.{HasPointOn, AreConsistent, equation_labels}
use Rattle.poly_model.specs.Extreme.{TouchesPoint, IsShown, IsFeasible}
use Rattle.poly_model.specs.Independence.{Vanish}
use Rattle.poly_model.specs.Labels.{coordinates_from, is_row, coordinate_index}
use Rattle.poly_model.specs.Spaces.{Space, IsInside, HasPoints, in_front, in_main, main_space, label_form, cut_space}
use Rattle.poly_model.specs.Systems.{Row, row_of, no_row, Polyhedron, file_rows, cone_of, added_row}
use Rattle.poly_model.proofs.RowLemmas.{row_from_one}
use Rattle.cone_laws.specs.Faces.{fixed_rows}
use Rattle.cone_laws.proofs.RowLemmas.{linear_from_fixed}
use Rattle.cone_laws.proofs.ColumnLemmas.{one_list_of_columns}
use Rattle.dictionary_laws.proofs.Filters.{filter_only, range_only}
use Rattle.dictionary_laws.proofs.InFront.{with_front}
use Rattle.dictionary_laws.proofs.MainRows.{row_in_cone}
use Rattle.tree_laws.proofs.ExtremesOfPoints.{behind_vanish}
use Rattle.tree_laws.proofs.MainLabels.{main_in, same_fixed}
use Rattle.search_laws.proofs.MainStart.{feasible_root}
use Rattle.convert_core.specs.Rays.{HasLinearPoint}

-- the vector of the cone in one of the main space
abbrev behind : Kind → Vector → Vector
behind H z = z
behind V [] = []
behind V (x ∷ v) = v

module _ (p : Polyhedron) (free : List ℕ) where
  abbrev rows : List Row
  rows = (cone_of p).rows

  linear_of_kind : (kind : Kind) (z : Vector) → IsInside (main_in kind p free) z →
      All (λ row. row.linear ≡ true → IsTight (behind kind z) row) rows
  linear_of_kind H z i =
      linear_from_fixed free (cone_of p) z (subst (λ gs. Vanish gs z) (sym (same_fixed p free)) i.fixed)
  linear_of_kind V [] i = absurd (let w = i.width in omega (arith, w))
  linear_of_kind V (x ∷ v) i =
      linear_from_fixed free (cone_of p) v
      (behind_vanish (fixed_rows free (cone_of p)) x v
      (subst (λ gs. Vanish (map in_front gs) (x ∷ v)) (sym (same_fixed p free)) i.fixed))

  -- row i, if it is linear
  tight_row : (kind : Kind) (z : Vector) → IsInside (main_in kind p free) z → (i : ℕ) → 0 < i → i ≤ length rows →
      (row_of rows i).linear ≡ true → (row_of rows i).entries · behind kind z ≡ pos 0
  tight_row kind z inside i l h linear =
      let here : row_of rows i ≡ get_or rows (i - 1) no_row = row_from_one rows i l in
      ap (λ (row : Row). row.entries · behind kind z) here
      ∙ linear_of_kind kind z inside (i - 1) no_row (omega arith) (ap (λ (row : Row). row.linear) (sym here) ∙ linear)

  -- ---- a linear point
  touches : (y : Vector) → IsInside (main_in V p free) (in_main V y) → HasLinearPoint (cone_of p) →
      TouchesPoint (cone_of p) y
  touches y inside x =
      let from_one = x.from_one in
      let within = x.within in
      record {
        row = row_of rows x.i;
        within = subst (Contains rows) (sym (row_from_one rows x.i from_one))
            (Contains-get_or rows (x.i - 1) no_row (omega arith));
        point = x.row.1;
        tight = tight_row V (in_main V y) inside x.i from_one within x.row.0;
      }

  touches_of_kind : (kind : Kind) (y : Vector) → IsInside (main_in kind p free) (in_main kind y) →
      HasLinearPoint (cone_of p) → IsShown kind (cone_of p) y
  touches_of_kind H y inside x = tt
  touches_of_kind V y inside x = touches y inside x

  pub shown_by_linear_point : (y : Vector) → IsInside (main_space p free) (in_main p.kind y) →
      HasLinearPoint (cone_of p) → IsShown p.kind (cone_of p) y
  shown_by_linear_point y = touches_of_kind p.kind y

  -- ---- equations
  module _ (few : length rows < coordinates_from) where
    abbrev cut : Kind → Space
    cut kind = cut_space kind p []

    equation : (i : ℕ) → Contains (equation_labels p) i →
        (0 < i) × (i ≤ length (file_rows p)) × ((row_of (file_rows p) i).linear ≡ true)
    equation i c =
        let h = filter_only (λ k. (row_of (file_rows p) k).linear) _ i c in
        let r = range_only 1 (length (file_rows p)) i h.0 in
        let from_one = r.0 in
        let within = r.1 in
        (omega arith, omega arith, h.1)

    more : length (file_rows p) ≤ length rows
    more = omega (arith, length-append (file_rows p) (added_row p.kind p.n (file_rows p)))

    entries_are : (list : List Row) (i : ℕ) → i < coordinates_from → label_form list i ≡ (row_of list i).entries
    entries_are list i l =
        cond-true (is_row i) (row_of list i).entries (coordinate (coordinate_index i)) (lt-ltb i coordinates_from l)

    zero_of_kind : (kind : Kind) (z : Vector) → IsInside (main_in kind p free) z → (i : ℕ) →
        Contains (equation_labels p) i → (cut kind).form i · z ≡ pos 0
    zero_of_kind kind z inside i c =
        let e = equation i c in
        let from_one = e.0 in
        let within = e.1 in
        let count = more in
        let same : row_of rows i ≡ row_of (file_rows p) i = row_in_cone p i from_one (omega arith) in
        let tight = tight_row kind z inside i from_one (omega arith)
        (ap (λ (row : Row). row.linear) same ∙ e.2) in
        by kind z inside same (omega arith) tight
      where
        by : (kind : Kind) (z : Vector) → IsInside (main_in kind p free) z → row_of rows i ≡ row_of (file_rows p) i →
            i < coordinates_from → (row_of rows i).entries · behind kind z ≡ pos 0 → (cut kind).form i · z ≡ pos 0
        by H z inside same l t =
            ap (λ (g : Vector). g · z) (entries_are (file_rows p) i l ∙ ap (λ (row : Row). row.entries) (sym same)) ∙ t
        by V [] inside same l t = absurd (let w = inside.width in omega (arith, w))
        by V (x ∷ v) inside same l t =
            with_front (label_form rows i) x v ∙ ap (λ (g : Vector). g · v) (entries_are rows i l) ∙ t

    point_of_kind : (kind : Kind) → HasPoints (main_in kind p free) → HasPointOn (cut kind) (equation_labels p)
    point_of_kind H h = record {
      vector = h.vector;
      inside = record { width = h.inside.width; fixed = tt };
      finite = h.finite;
      zero = zero_of_kind H h.vector h.inside;
    }
    point_of_kind V h = record {
      vector = h.vector;
      inside = record { width = h.inside.width; fixed = tt };
      finite = h.finite;
      zero = zero_of_kind V h.vector h.inside;
    }

-- where the main space has a point they have one
pub points_are_consistent : (p : Polyhedron) (free : List ℕ) → length (cone_of p).rows < coordinates_from →
    HasPoints (main_space p free) → AreConsistent p
points_are_consistent p free few h = point_of_kind p free few p.kind h

pub feasible_is_consistent : (p : Polyhedron) → length (cone_of p).rows < coordinates_from → IsFeasible (cone_of p) →
    AreConsistent p
feasible_is_consistent p few e =
    let columns = one_list_of_columns (cone_of p) in
    let (root, home, f) = feasible_root p columns.one columns.has few e in
    points_are_consistent p columns.one few f.dictionary.points
