-- Rows of faces, ranks and vertices that are known from a drawing: a wrong definition does not check.
use Rattle.std.proofs.Common.{◌≡◌, true, false, pos, ◌*ℤ◌, [], ◌∷◌, length, refl, ap, ◌∙◌, arith}
use Rattle.std.proofs.lemmas.Int.{ints}
use Rattle.poly_num.specs.Vectors.{Vector}
use Rattle.poly_num.proofs.Ring.{mul_zero}
use Rattle.poly_num.proofs.VectorLemmas.{scale-dot}
use Rattle.poly_model.specs.declared.kind.Kind.TheVariants.{H}
use Rattle.poly_model.specs.Independence.{Follows, taken}
use Rattle.poly_model.specs.Systems.{cone_of}
use Rattle.linear_laws.proofs.FirstBases.{first_unique}
use Rattle.linear_laws.proofs.Signs.{one_is_not_zero}
use Rattle.cone_laws.specs.Faces.{fixed_rows, other_rows, face_rows, HasRank}
use Rattle.cone_laws.specs.FeasibilityLaws.{HasVertex, IsFlatAtInfinity}
use Rattle.cone_laws.proofs.KnownValues.{equation, inequality, h_file, square, strip, contradiction, corner, centre, axis, diagonal, upward, contradiction_is_not_feasible}
use Rattle.cone_laws.proofs.KnownExtremes.{corner_is_extreme}

-- ---- rows of faces
-- x = 0 and y >= 0: the equation is fixed, and the row at infinity is among the others
equation_is_fixed : fixed_rows [] (cone_of (h_file 3 (equation axis ∷ inequality upward ∷ []))) ≡ axis ∷ []
equation_is_fixed = refl

infinity_is_another : other_rows (cone_of (h_file 3 (equation axis ∷ inequality upward ∷ [])))
    ≡ upward ∷ corner ∷ []
infinity_is_another = refl

-- two rows are tight at the corner of the square, and none at its centre
rows_at_the_corner : face_rows [] square corner ≡ axis ∷ upward ∷ []
rows_at_the_corner = refl

no_rows_at_the_centre : face_rows [] square centre ≡ []
no_rows_at_the_centre = refl

-- in the strip the free column comes first
rows_in_the_strip : face_rows (2 ∷ []) strip corner ≡ upward ∷ axis ∷ []
rows_in_the_strip = refl

-- ---- ranks
corner_has_rank_two : HasRank 3 (face_rows [] square corner) 2
corner_has_rank_two = record {
  marks = true ∷ true ∷ [];
  first = ((axis, refl, tt, one_is_not_zero), ((upward, refl, (refl, tt), one_is_not_zero), tt));
  count = refl;
}

centre_has_rank_zero : HasRank 3 (face_rows [] square centre) 0
centre_has_rank_zero = record { marks = []; first = tt; count = refl }

abbrev twice_diagonal : Vector
twice_diagonal = pos 0 ∷ pos 2 ∷ pos 2 ∷ []

multiple_adds_nothing : HasRank 3 (diagonal ∷ twice_diagonal ∷ []) 1
multiple_adds_nothing = record {
  marks = true ∷ false ∷ [];
  first = ((axis, refl, tt, one_is_not_zero), (follows, tt));
  count = refl;
}
  where
    follows : Follows 3 (diagonal ∷ []) twice_diagonal
    follows y l v = scale-dot (pos 2) diagonal y ∙ ap (λ t. pos 2 *ℤ t) v.0 ∙ mul_zero (pos 2)

two_is_not_its_rank : HasRank 3 (diagonal ∷ twice_diagonal ∷ []) 2 → ⊥
two_is_not_its_rank r =
    let one = multiple_adds_nothing in
    let same = first_unique 3 [] (diagonal ∷ twice_diagonal ∷ []) r.marks one.marks r.first one.first in
    let count = ap (λ ms. length (taken [] (diagonal ∷ twice_diagonal ∷ []) ms)) same in
    let two = r.count in
    omega (arith, one.count)

-- ---- vertices
corner_is_a_vertex : HasVertex square
corner_is_a_vertex = record { vector = corner; extreme = corner_is_extreme; positive = omega (arith, ints) }

contradiction_has_no_vertex : HasVertex contradiction → ⊥
contradiction_has_no_vertex v =
    contradiction_is_not_feasible
    (record { vector = v.vector; in_cone = v.extreme.in_cone; positive = v.positive })

-- the plane without the row at infinity: (1, 0, 0) is 0 on all of no rows
plane_is_not_flat : IsFlatAtInfinity (record { kind = H; n = 3; rows = [] }) → ⊥
plane_is_not_flat h = one_is_not_zero (h corner refl (λ k d l. absurd (omega arith)))
