-- The primitive vectors of the columns that are left are the lines of the free columns, in their order.
use Rattle.std.proofs.Common.{◌≡◌, ℕ, ◌+◌, List, [], ◌∷◌, pos, ◌*ℤ◌, ◌<ℤ◌, map, length, sym, ap, subst, ◌∙◌, arith}
use Rattle.std.specs.List.{Contains, slice_index_or}
use Rattle.std.proofs.lemmas.Int.{ints}
use Rattle.poly_num.specs.Vectors.{Vector, ◌·◌, scale, IsZero}
use Rattle.poly_num.specs.Divisors.{MakesPrimitive}
use Rattle.poly_num.proofs.Order.{zero_factor, positive_nonzero, positive_factor}
use Rattle.poly_num.proofs.VectorLemmas.{dot-scale, length-scale}
use Rattle.poly_num.proofs.PrimitiveLemmas.{MakesPrimitive-quotients}
use Rattle.poly_model.specs.Keys.{IsAscending}
use Rattle.poly_model.specs.Systems.{Polyhedron, cone_of}
use Rattle.poly_model.specs.Cones.{at}
use Rattle.poly_model.specs.Labels.{is_coordinate, coordinate_label, coordinate_index}
use Rattle.poly_model.specs.FreeColumns.{IsLine, AreFreeColumns, AreLinesOf}
use Rattle.linear_laws.proofs.Entries.{at-scale, at-zero}
use Rattle.linear_laws.proofs.Members.{Contains-first, Contains-later}
use Rattle.dictionary_laws.proofs.Filters.{filter_only}
use Rattle.dictionary.specs.Views.{Dictionary}
use Rattle.hull_lift.specs.Facets.{column_of, primitive_column}
use Rattle.linearity.specs.declared.eliminate.Pass.TheVariants.{Others}
use Rattle.linearity.specs.Columns.{coordinates_in, columns_in, coordinate_vectors}
use Rattle.linearity.specs.Elimination.{IsDictionaryOf, IsEliminated}
use Rattle.linearity.specs.Laws.{EliminationLeavesLines}
use Rattle.linearity.proofs.ConeReadings.{cone_readings}
use Rattle.linearity.proofs.KeyColumns.{coordinate_only, column_has, column_only, columns_ascend}
use Rattle.linearity.proofs.LeftColumns.{left_width, left_here, left_elsewhere, left_tight, free_from_left, left_from_free}

-- ---- lines, label by label
lines_of : (p : Polyhedron) (f : ℕ → Vector) (ks : List ℕ) →
    ((k : ℕ) → Contains ks k → IsLine (cone_of p) (coordinate_index k) (f k)) →
    AreLinesOf (cone_of p) (map (λ k. coordinate_index k) ks) (map f ks)
lines_of p f [] h = tt
lines_of p f (x ∷ ks) h = (h x (Contains-first x ks), lines_of p f ks (λ k c. h k (Contains-later k x ks c)))

module _ (p : Polyhedron) (d : Dictionary) (is : IsDictionaryOf p d)
    (e : IsEliminated (cone_of p).rows Others (length (cone_of p).rows + 1) d) where
  -- the primitive vector along the column of a coordinate that is left is the line of its column
  module _ (j : ℕ) (c : Contains d.key (coordinate_label j)) where
    abbrev z : Vector
    z = column_of d (coordinate_label j) p.n

    abbrev y : Vector
    y = primitive_column d (coordinate_label j) p.n

    positive : pos 0 <ℤ d.denominator
    positive = (cone_readings p d is).positive

    not_zero : IsZero z → ⊥
    not_zero zero = positive_nonzero d.denominator positive (sym (left_here p d is e j c) ∙ at-zero j z zero)

    line_along : MakesPrimitive z y → IsLine (cone_of p) j y
    line_along m =
        let g : ℕ = m.factor.0 in
        let g_positive : pos 0 <ℤ pos g = let l = m.factor.1 in omega (arith, ints) in
        let times : z ≡ scale (pos g) y = m.factor.2 in
        let entry : (i : ℕ) → at i z ≡ pos g *ℤ at i y = λ i. ap (at i) times ∙ at-scale i (pos g) y in
        record {
          free = free_from_left p d is e j c;
          width = sym (length-scale (pos g) y) ∙ ap length (sym times) ∙ left_width p d is e j c;
          primitive = m.primitive not_zero;
          vanishing = λ i none l.
              let row : Vector = (slice_index_or (cone_of p).rows i none).entries in
              zero_factor (pos g) (row · y)
              (sym (dot-scale row (pos g) y) ∙ ap (λ v. row · v) (sym times) ∙ left_tight p d is e j c i none l)
              (positive_nonzero (pos g) g_positive);
          here = positive_factor (pos g) (at j y) g_positive
              (subst (λ x. pos 0 <ℤ x) (sym (left_here p d is e j c) ∙ entry j) positive);
          elsewhere = λ i f n.
              zero_factor (pos g) (at i y)
              (sym (entry i) ∙ left_elsewhere p d is e j c i (left_from_free p d is e i f) n)
              (positive_nonzero (pos g) g_positive);
        }

    line_from_left : IsLine (cone_of p) j y
    line_from_left = line_along (MakesPrimitive-quotients z)

  free_columns : IsAscending d.key → AreFreeColumns (cone_of p) (columns_in d.key)
  free_columns a = record {
    ascending = columns_ascend d.key a;
    exactly = λ j. (
      λ f. column_has d.key j (left_from_free p d is e j f),
      λ c. free_from_left p d is e j (column_only d.key j c),
    );
  }

  free_lines : AreLinesOf (cone_of p) (columns_in d.key) (coordinate_vectors d p.n)
  free_lines = lines_of p (λ k. primitive_column d k p.n) (coordinates_in d.key) (λ k c.
      let h = filter_only is_coordinate d.key k c in
      let l = coordinate_only k h.1 in
      let label : coordinate_label (coordinate_index k) ≡ k = omega arith in
      subst (λ i. IsLine (cone_of p) (coordinate_index k) (primitive_column d i p.n)) label
      (line_from_left (coordinate_index k) (subst (Contains d.key) (sym label) h.0)))

pub elimination_leaves_lines : EliminationLeavesLines
elimination_leaves_lines p d is a e = record { free = free_columns p d is e a; lines = free_lines p d is e }
