-- Columns known by hand. The H file 1 + 2 x1 - 3 x2 >= 0, x2 >= 0 after row 1 has taken the place of x1:
--
--     2 x1 = -1 + 1 row1 + 3 x2        2 row2 = 2 x2
--
-- and the V file of the point 0 and the ray to the right on a line, at the cobasis of both rows.
use Rattle.std.proofs.Common.{◌≡◌, ℕ, zero, suc, true, false, [], ◌∷◌, pos, negsuc, refl, arith}
use Rattle.std.proofs.lemmas.Int.{ints}
use Rattle.poly_model.specs.Labels.{coordinates_from, constant_label}
use Rattle.poly_model.specs.declared.kind.Kind.TheVariants.{V}
use Rattle.poly_model.specs.declared.overflow.Phase.TheVariants.{Cone, Main}
use Rattle.poly_model.specs.Systems.{System}
use Rattle.dictionary.specs.Views.{Dictionary, number}
use Rattle.hull_lift.specs.Facets.{column_of, IsTouchedAt, IsShownColumn}

-- ---- the H file

abbrev corner : Dictionary
corner = record {
  phase = Main;
  labels = 1 ∷ 2 ∷ 8193 ∷ 8194 ∷ [];
  key = 1 ∷ 8194 ∷ [];
  columns = 1 ∷ 8194 ∷ [];
  rows = 2 ∷ 8193 ∷ [];
  denominator = pos 2;
  cells = pos 0 ∷ negsuc 0 ∷ pos 0 ∷ pos 1 ∷ pos 2 ∷ pos 3 ∷ [];
}

-- the point (-1/2, 0)
vertex : column_of corner constant_label 3 ≡ pos 2 ∷ negsuc 0 ∷ pos 0 ∷ []
unfolding number
vertex = refl

-- where row 1 grows, along x1, and where x2 does, along row 1
along_row : column_of corner 1 3 ≡ pos 0 ∷ pos 1 ∷ pos 0 ∷ []
unfolding number
along_row = refl

along_coordinate : column_of corner 8194 3 ≡ pos 0 ∷ pos 3 ∷ pos 2 ∷ []
unfolding number
along_coordinate = refl

-- ---- the V file

abbrev half_line : System
half_line = record {
  kind = V;
  n = 2;
  rows =
      record { entries = pos 1 ∷ pos 0 ∷ []; linear = false; point = true }
      ∷ record { entries = pos 0 ∷ pos 1 ∷ []; linear = false; point = false } ∷ [];
}

abbrev facets : Dictionary
facets = record {
  phase = Cone;
  labels = 1 ∷ 2 ∷ coordinates_from ∷ 8193 ∷ [];
  key = 1 ∷ 2 ∷ [];
  columns = 1 ∷ 2 ∷ [];
  rows = coordinates_from ∷ 8193 ∷ [];
  denominator = pos 1;
  cells = pos 0 ∷ pos 0 ∷ pos 1 ∷ pos 0 ∷ pos 0 ∷ pos 1 ∷ [];
}

-- x >= 0, which the point touches
facet : column_of facets 2 2 ≡ pos 0 ∷ pos 1 ∷ []
unfolding number
facet = refl

is_facet : IsShownColumn half_line facets 2
unfolding number
is_facet = (1, record { from_one = omega arith; within = omega arith; point = refl; zero = refl })

-- 1 >= 0, which only the ray touches
at_infinity : column_of facets 1 2 ≡ pos 1 ∷ pos 0 ∷ []
unfolding number
at_infinity = refl

untouched : (i : ℕ) → IsTouchedAt half_line facets 1 i → ⊥
unfolding number
untouched zero t = let l = t.from_one in omega arith
untouched (suc zero) t = let e = t.zero in omega (arith, ints, e)
untouched (suc (suc zero)) t = let e : false ≡ true = t.point in cc
untouched (suc (suc (suc i))) t = let l = t.within in omega arith

is_no_facet : IsShownColumn half_line facets 1 → ⊥
unfolding number
is_no_facet (i, t) = untouched i t
