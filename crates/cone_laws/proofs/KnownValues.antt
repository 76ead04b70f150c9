-- Files whose cones are known from a drawing: what `cone_of` gives, what is in the cone, which are feasible.
-- A wrong definition does not check.
use Rattle.std.proofs.Common.{◌≡◌, ℕ, zero, suc, true, false, pos, negsuc, List, [], ◌∷◌, arith, refl, ap, ◌∙◌}
use Rattle.std.specs.Prelude.{◌<◌, ◌<ℤ◌}
use Rattle.std.specs.List.{slice_index_or}
use Rattle.std.proofs.lemmas.Int.{ints}
use Rattle.std.proofs.lemmas.List.Elements.{All-from_recursion}
use Rattle.poly_num.specs.Vectors.{Vector, ◌·◌}
use Rattle.poly_model.specs.declared.kind.Kind.TheVariants.{H, V}
use Rattle.poly_model.specs.Systems.{FileRow, Row, Polyhedron, System, cone_of}
use Rattle.poly_model.specs.Cones.{at, Meets, IsInCone, IsTight}
use Rattle.poly_model.specs.Extreme.{IsFeasible, TouchesPoint}

abbrev pub inequality : Vector → FileRow
inequality v = record { entries = v; linear = false }

abbrev pub equation : Vector → FileRow
equation v = record { entries = v; linear = true }

abbrev pub h_file : ℕ → List FileRow → Polyhedron
h_file n rows = record { kind = H; n = n; rows = rows; nonnegative = false; text = [] }

abbrev pub v_file : ℕ → List FileRow → Polyhedron
v_file n rows = record { kind = V; n = n; rows = rows; nonnegative = false; text = [] }

abbrev pub row_of : Vector → Row
row_of v = record { entries = v; linear = false; point = false }

abbrev pub linear_row_of : Vector → Row
linear_row_of v = record { entries = v; linear = true; point = false }

abbrev pub point_of : Vector → Row
point_of v = record { entries = v; linear = false; point = true }

-- row k, from 0
abbrev pub row_at : System → ℕ → Row
row_at sys k = slice_index_or sys.rows k (row_of [])

-- ---- files
-- 0 <= x <= 1, 0 <= y <= 1
abbrev pub square : System
square =
    cone_of (h_file 3 (
    inequality (pos 0 ∷ pos 1 ∷ pos 0 ∷ [])
    ∷ inequality (pos 0 ∷ pos 0 ∷ pos 1 ∷ [])
    ∷ inequality (pos 1 ∷ negsuc 0 ∷ pos 0 ∷ [])
    ∷ inequality (pos 1 ∷ pos 0 ∷ negsuc 0 ∷ [])
    ∷ []
    ))

-- 0 <= x, 0 <= y
abbrev pub quadrant : System
quadrant =
    cone_of (h_file 3 (inequality (pos 0 ∷ pos 1 ∷ pos 0 ∷ []) ∷ inequality (pos 0 ∷ pos 0 ∷ pos 1 ∷ []) ∷ []))

-- 0 <= x + y, 0 <= 2 x + 2 y
abbrev pub half_plane : System
half_plane =
    cone_of (h_file 3 (inequality (pos 0 ∷ pos 1 ∷ pos 1 ∷ []) ∷ inequality (pos 0 ∷ pos 2 ∷ pos 2 ∷ []) ∷ []))

-- 0 <= x <= 1, for every y
abbrev pub strip : System
strip =
    cone_of (h_file 3 (inequality (pos 0 ∷ pos 1 ∷ pos 0 ∷ []) ∷ inequality (pos 1 ∷ negsuc 0 ∷ pos 0 ∷ []) ∷ []))

-- every x and y
abbrev pub plane : System
plane = cone_of (h_file 3 [])

-- 1 <= x, x <= 0
abbrev pub contradiction : System
contradiction =
    cone_of (h_file 2 (inequality (negsuc 0 ∷ pos 1 ∷ []) ∷ inequality (pos 0 ∷ negsuc 0 ∷ []) ∷ []))

-- the point 0 and the ray upward
abbrev pub half_line : System
half_line = cone_of (v_file 2 (inequality (pos 1 ∷ pos 0 ∷ []) ∷ inequality (pos 0 ∷ pos 1 ∷ []) ∷ []))

-- ---- vectors
-- the point (0, 0), the point (1/2, 1/2), and three directions of the plane
abbrev pub corner : Vector
corner = pos 1 ∷ pos 0 ∷ pos 0 ∷ []

abbrev pub centre : Vector
centre = pos 2 ∷ pos 1 ∷ pos 1 ∷ []

abbrev pub axis : Vector
axis = pos 0 ∷ pos 1 ∷ pos 0 ∷ []

abbrev pub diagonal : Vector
diagonal = pos 0 ∷ pos 1 ∷ pos 1 ∷ []

abbrev pub upward : Vector
upward = pos 0 ∷ pos 0 ∷ pos 1 ∷ []

-- the inequalities x >= 0 and 1 >= 0
abbrev pub bound : Vector
bound = pos 0 ∷ pos 1 ∷ []

abbrev pub infinity : Vector
infinity = pos 1 ∷ pos 0 ∷ []

-- ---- the rows of a cone
-- behind those of an H file stands the row at infinity, and no row is a point
h_file_adds_infinity : cone_of (h_file 2 (inequality (pos 1 ∷ pos 2 ∷ []) ∷ equation (pos 3 ∷ pos 4 ∷ []) ∷ []))
    ≡ record {
      kind = H;
      n = 2;
      rows = row_of (pos 1 ∷ pos 2 ∷ []) ∷ linear_row_of (pos 3 ∷ pos 4 ∷ []) ∷ row_of (pos 1 ∷ pos 0 ∷ []) ∷ [];
    }
h_file_adds_infinity = refl

-- a V file with a point is taken as it stands
v_file_with_a_point : half_line
    ≡ record { kind = V; n = 2; rows = point_of (pos 1 ∷ pos 0 ∷ []) ∷ row_of (pos 0 ∷ pos 1 ∷ []) ∷ [] }
v_file_with_a_point = refl

-- behind the rays of a V file without a point stands the origin
v_file_without_a_point : cone_of (v_file 2 (inequality (pos 0 ∷ pos 1 ∷ []) ∷ []))
    ≡ record { kind = V; n = 2; rows = row_of (pos 0 ∷ pos 1 ∷ []) ∷ point_of (pos 1 ∷ pos 0 ∷ []) ∷ [] }
v_file_without_a_point = refl

-- ---- vectors of a cone
-- entry 1 of (5, 7) is 7, and past the end there are zeros
entry_within : at 1 (pos 5 ∷ pos 7 ∷ []) ≡ pos 7
entry_within = refl

entry_past_the_end : at 2 (pos 5 ∷ pos 7 ∷ []) ≡ pos 0
entry_past_the_end = refl

-- the corner (0, 0) and the centre (1/2, 1/2) are in the square
pub corner_in_square : IsInCone square corner
corner_in_square = record {
  width = refl;
  meets =
      All-from_recursion (Meets corner) square.rows (
        omega (arith, ints),
        (omega (arith, ints), (omega (arith, ints), (omega (arith, ints), (omega (arith, ints), tt)))),
      );
}

centre_in_square : IsInCone square centre
centre_in_square = record {
  width = refl;
  meets =
      All-from_recursion (Meets centre) square.rows (
        omega (arith, ints),
        (omega (arith, ints), (omega (arith, ints), (omega (arith, ints), (omega (arith, ints), tt)))),
      );
}

-- (2, 0) is not
outside_square : IsInCone square (pos 1 ∷ pos 2 ∷ pos 0 ∷ []) → ⊥
outside_square h = let k = h.meets 2 (row_of []) (omega arith) in omega (arith, ints)

-- nor is a vector of another length
short_not_in_square : IsInCone square infinity → ⊥
short_not_in_square h = let w = h.width in omega arith

-- on an equation a product greater than 0 is refused
equation_is_met_at_zero : Meets infinity (linear_row_of (pos 0 ∷ pos 1 ∷ []))
equation_is_met_at_zero = refl

equation_is_not_met_above : Meets (pos 1 ∷ pos 1 ∷ []) (linear_row_of (pos 0 ∷ pos 1 ∷ [])) → ⊥
equation_is_not_met_above e = cc

-- x >= 0 is tight at the corner, and not at the centre
tight_at_the_corner : IsTight corner (row_of (pos 0 ∷ pos 1 ∷ pos 0 ∷ []))
tight_at_the_corner = refl

not_tight_at_the_centre : IsTight centre (row_of (pos 0 ∷ pos 1 ∷ pos 0 ∷ [])) → ⊥
not_tight_at_the_centre e = cc

-- ---- feasible files
square_is_feasible : IsFeasible square
square_is_feasible = record { vector = corner; in_cone = corner_in_square; positive = omega (arith, ints) }

pub contradiction_is_not_feasible : IsFeasible contradiction → ⊥
contradiction_is_not_feasible h = by h.vector h.in_cone h.positive
  where
    by : (y : Vector) → IsInCone contradiction y → pos 0 <ℤ at 0 y → ⊥
    by [] c p = let w = c.width in omega arith
    by (a ∷ []) c p = let w = c.width in omega arith
    by (a ∷ b ∷ []) c p =
        let low = c.meets 0 (row_of []) (omega arith) in
        let high = c.meets 1 (row_of []) (omega arith) in
        omega (arith, ints)
    by (a ∷ b ∷ x ∷ y) c p = let w = c.width in omega arith

v_files_are_feasible : IsFeasible half_line
v_files_are_feasible = tt

-- ---- points of a V file
-- x >= 0 touches the point 0, and 1 >= 0 touches the ray alone
pub bound_touches_the_point : TouchesPoint half_line bound
bound_touches_the_point = record {
  row = point_of (pos 1 ∷ pos 0 ∷ []);
  within = (0, omega arith, refl);
  point = refl;
  tight = refl;
}

pub infinity_touches_no_point : TouchesPoint half_line infinity → ⊥
infinity_touches_no_point t = by t.within.0 t.within.1 t.within.2
  where
    by : (k : ℕ) → k < 2 → slice_index_or half_line.rows k t.row ≡ t.row → ⊥
    by zero l e = let here = ap (λ (row : Row). row.entries · infinity) e ∙ t.tight in cc
    by (suc zero) l e = let none = ap (λ (row : Row). row.point) e ∙ t.point in cc
    by (suc (suc k)) l e = omega arith
