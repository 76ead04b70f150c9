-- An H file's system is feasible exactly where it has a vertex.
use Rattle.std.proofs.Common.{◌≡◌, ◌↔◌, Bool, true, false, cond, ℕ, zero, ◌-◌, ℤ, pos, ◌*ℤ◌, List, [], ◌∷◌, length, refl, sym, ap, subst, ◌∙◌, arith}
use Rattle.std.specs.Prelude.{◌<◌, ◌≤ℤ◌, ◌<ℤ◌}
use Rattle.std.proofs.lemmas.Int.{ints}
use Rattle.std.specs.List.{Contains, slice_index_or}
use Rattle.std.proofs.lemmas.List.Elements.{All-contains, Contains-append_right}
use Rattle.poly_num.specs.Vectors.{Vector, ◌·◌}
use Rattle.poly_num.proofs.Ring.{lin, mul_zero}
use Rattle.poly_num.proofs.Order.{positive_product, keeps_at_most}
use Rattle.poly_num.proofs.VectorLemmas.{zeros-dot}
use Rattle.poly_model.specs.declared.kind.Kind.TheVariants.{H}
use Rattle.poly_model.specs.Independence.{Follows}
use Rattle.poly_model.specs.Systems.{Row, System, Polyhedron, first_unit, file_rows, added_row, cone_of}
use Rattle.poly_model.specs.Cones.{at, Meets, IsInCone, IsTight, coordinate}
use Rattle.poly_model.specs.FreeColumns.{AreFreeColumns}
use Rattle.poly_model.specs.Extreme.{IsShown, HasPoint, IsFeasibleAs, IsFeasible}
use Rattle.linear_laws.specs.Corners.{IsCorner}
use Rattle.linear_laws.proofs.Entries.{coordinate_reads}
use Rattle.linear_laws.proofs.Members.{Contains-first}
use Rattle.linear_laws.proofs.CornerLemmas.{positive_corner}
use Rattle.cone_laws.specs.Faces.{fixed_rows, other_rows}
use Rattle.cone_laws.specs.Unique.{ExactlyOne}
use Rattle.cone_laws.specs.FeasibilityLaws.{HasVertex, IsFlatAtInfinity}
use Rattle.cone_laws.proofs.RowLemmas.{forms_of, rows_from_forms}
use Rattle.cone_laws.proofs.ColumnLemmas.{one_list_of_columns, free_in_rows}
use Rattle.cone_laws.proofs.ClearLemmas.{Cleared, cleared}
use Rattle.cone_laws.proofs.PointedLemmas.{holds_no_line, in_pointed_cone, extreme_of_corner}

-- a row that is met where it is x is met where it is a positive multiple of x
meets_multiple : (linear : Bool) (p x y : ℤ) → pos 0 <ℤ p → y ≡ p *ℤ x → cond linear (x ≡ pos 0) (pos 0 ≤ℤ x) →
    cond linear (y ≡ pos 0) (pos 0 ≤ℤ y)
meets_multiple true p x y h e m = e ∙ ap (λ t. p *ℤ t) m ∙ mul_zero p
meets_multiple false p x y h e m =
    let k = keeps_at_most p (pos 0) x h m in
    let z = mul_zero p in
    omega (arith, lin)

module _ (sys : System) where
  -- ---- a vector of the cone, made 0 at the free columns
  row_follows : (k : ℕ) (d : Row) → k < length sys.rows →
      Follows sys.n (forms_of sys) (slice_index_or sys.rows k d).entries
  row_follows k d lt w l v = rows_from_forms (λ g. g · w ≡ pos 0) sys v k d lt

  infinity_follows : IsFlatAtInfinity sys → Follows sys.n (forms_of sys) (coordinate 0)
  infinity_follows flat w l v = coordinate_reads 0 w ∙ flat w l (rows_from_forms (λ g. g · w ≡ pos 0) sys v)

  module _ (columns : List ℕ) (y : Vector) (c : Cleared sys.n (forms_of sys) columns y) where
    cleared_meets : (k : ℕ) (d : Row) → k < length sys.rows → Meets y (slice_index_or sys.rows k d) →
        Meets c.z (slice_index_or sys.rows k d)
    cleared_meets k d lt m =
        let row : Row = slice_index_or sys.rows k d in
        meets_multiple row.linear c.factor (row.entries · y) (row.entries · c.z) c.positive
        (c.values row.entries (row_follows k d lt)) m

    cleared_in_cone : IsInCone sys y → IsInCone sys c.z
    cleared_in_cone h = record { width = c.width; meets = λ k d lt. cleared_meets k d lt (h.meets k d lt) }

    still_positive : IsFlatAtInfinity sys → pos 0 <ℤ at 0 y → pos 0 <ℤ (coordinate 0 · c.z)
    still_positive flat up =
        let e = c.values (coordinate 0) (infinity_follows flat) in
        let g = ap (λ t. c.factor *ℤ t) (coordinate_reads 0 y) in
        subst (λ t. pos 0 <ℤ t) (sym (e ∙ g)) (positive_product c.factor (at 0 y) c.positive up)

  -- ---- a corner of what is left
  module _ (kind : sys.kind ≡ H) (columns : List ℕ) (f : AreFreeColumns sys columns) where
    vertex_from_corner : (z : Vector) × IsCorner sys.n (fixed_rows columns sys) (other_rows sys) z
        × (pos 0 <ℤ (coordinate 0 · z)) → HasVertex sys
    vertex_from_corner (z, k, up) = record {
      vector = z;
      extreme = extreme_of_corner sys columns f z k (subst (λ t. IsShown t sys z) (sym kind) tt);
      positive = subst (λ t. pos 0 <ℤ t) (coordinate_reads 0 z) up;
    }

    vertex_from_cleared : IsFlatAtInfinity sys → (p : HasPoint sys) →
        Cleared sys.n (forms_of sys) columns p.vector → HasVertex sys
    vertex_from_cleared flat p c =
        let within = in_pointed_cone sys columns f c.z (cleared_in_cone columns p.vector c p.in_cone) c.zero in
        let up = still_positive columns p.vector c flat p.positive in
        let pointed = holds_no_line sys columns f in
        vertex_from_corner
        (positive_corner sys.n (fixed_rows columns sys) (other_rows sys) (coordinate 0) pointed c.z within up)

  vertex_from_point : sys.kind ≡ H → IsFlatAtInfinity sys → HasPoint sys → HasVertex sys
  vertex_from_point kind flat p =
      let f : ExactlyOne (AreFreeColumns sys) = one_list_of_columns sys in
      vertex_from_cleared kind f.one f.has flat p
      (cleared sys.n (forms_of sys) p.vector p.in_cone.width f.one f.has.ascending
      (λ k m. free_in_rows sys k ((f.has.exactly k).1 m)))

  point_of_vertex : HasVertex sys → HasPoint sys
  point_of_vertex v = record { vector = v.vector; in_cone = v.extreme.in_cone; positive = v.positive }

  pub feasible_by_vertex : sys.kind ≡ H → IsFlatAtInfinity sys → IsFeasible sys ↔ HasVertex sys
  feasible_by_vertex kind flat = (
    λ f. vertex_from_point kind flat (subst (λ k. IsFeasibleAs k sys) kind f),
    λ v. subst (λ k. IsFeasibleAs k sys) (sym kind) (point_of_vertex v),
  )

-- ---- the cone of a file has the row at infinity
pub first_unit_reads : (n : ℕ) (z : Vector) → first_unit n · z ≡ at 0 z
first_unit_reads n [] = refl
first_unit_reads n (x ∷ z) = omega (arith, ints, zeros-dot (n - 1) z)

file_is_flat : (p : Polyhedron) → p.kind ≡ H → IsFlatAtInfinity (cone_of p)
file_is_flat p kind z l t =
    sym (first_unit_reads p.n z) ∙ All-contains (IsTight z) (cone_of p).rows infinity t within
  where
    infinity : Row
    infinity = record { entries = first_unit p.n; linear = false; point = false }

    within : Contains (cone_of p).rows infinity
    within =
        Contains-append_right (file_rows p) (added_row p.kind p.n (file_rows p)) infinity
        (subst (λ k. Contains (added_row k p.n (file_rows p)) infinity) (sym kind) (Contains-first infinity []))

pub feasible_file_by_vertex : (p : Polyhedron) → p.kind ≡ H → IsFeasible (cone_of p) ↔ HasVertex (cone_of p)
feasible_file_by_vertex p kind = feasible_by_vertex (cone_of p) kind (file_is_flat p kind)
