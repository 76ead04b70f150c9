-- The pyramid over a square, its root {1, 2, 4} at a corner of the square, and the dictionaries of the four keys at its
-- apex. A wrong definition of the tree of cobases does not check in KnownPyramidTree.
use Rattle.std.proofs.Common.{ℤ, pos, negsuc, List, [], ◌∷◌, refl, arith}
use Rattle.poly_num.specs.Vectors.{Vector}
use Rattle.poly_model.specs.Spaces.{Space}
use Rattle.poly_model.specs.Dictionaries.{Table}
use Rattle.tree_laws.proofs.KnownTables.{space_of, inside, has_enough_labels, table_of, IsSolved, one_is_least, two_is_least}

-- rows 1: z >= 0, 2: 1 - x - z >= 0, 3: 1 + x - z >= 0, 4: 1 - y - z >= 0, 5: 1 + y - z >= 0
abbrev rows : List Vector
rows =
    (pos 0 ∷ pos 0 ∷ pos 0 ∷ pos 1 ∷ [])
    ∷ (pos 1 ∷ negsuc 0 ∷ pos 0 ∷ negsuc 0 ∷ [])
    ∷ (pos 1 ∷ pos 1 ∷ pos 0 ∷ negsuc 0 ∷ [])
    ∷ (pos 1 ∷ pos 0 ∷ negsuc 0 ∷ negsuc 0 ∷ [])
    ∷ (pos 1 ∷ pos 0 ∷ pos 1 ∷ negsuc 0 ∷ [])
    ∷ []

abbrev pub pyramid : Space
pyramid = space_of 4 rows

-- the direction (x, y, z)
abbrev to : ℤ → ℤ → ℤ → Vector
to x y z = pos 0 ∷ x ∷ y ∷ z ∷ []

-- ---- dictionaries: each row, x, y and z, solved for the three of the key
-- at (1, 1, 0)
abbrev pub home : Table
home =
    table_of (pos 1) (1 ∷ 2 ∷ 4 ∷ []) pyramid.labels (
    (pos 0 ∷ pos 1 ∷ pos 0 ∷ pos 0 ∷ [])
    ∷ (pos 0 ∷ pos 0 ∷ pos 1 ∷ pos 0 ∷ [])
    ∷ (pos 2 ∷ negsuc 1 ∷ negsuc 0 ∷ pos 0 ∷ [])
    ∷ (pos 0 ∷ pos 0 ∷ pos 0 ∷ pos 1 ∷ [])
    ∷ (pos 2 ∷ negsuc 1 ∷ pos 0 ∷ negsuc 0 ∷ [])
    ∷ (pos 1 ∷ negsuc 0 ∷ negsuc 0 ∷ pos 0 ∷ [])
    ∷ (pos 1 ∷ negsuc 0 ∷ pos 0 ∷ negsuc 0 ∷ [])
    ∷ (pos 0 ∷ pos 1 ∷ pos 0 ∷ pos 0 ∷ [])
    ∷ []
    )

-- at (0, 0, 1), without rows 1 and 3, 1 and 2, 1 and 5, 1 and 4
abbrev pub apex : Table
apex =
    table_of (pos 2) (2 ∷ 4 ∷ 5 ∷ []) pyramid.labels (
    (pos 2 ∷ pos 0 ∷ negsuc 0 ∷ negsuc 0 ∷ [])
    ∷ (pos 0 ∷ pos 2 ∷ pos 0 ∷ pos 0 ∷ [])
    ∷ (pos 0 ∷ negsuc 1 ∷ pos 2 ∷ pos 2 ∷ [])
    ∷ (pos 0 ∷ pos 0 ∷ pos 2 ∷ pos 0 ∷ [])
    ∷ (pos 0 ∷ pos 0 ∷ pos 0 ∷ pos 2 ∷ [])
    ∷ (pos 0 ∷ negsuc 1 ∷ pos 1 ∷ pos 1 ∷ [])
    ∷ (pos 0 ∷ pos 0 ∷ negsuc 0 ∷ pos 1 ∷ [])
    ∷ (pos 2 ∷ pos 0 ∷ negsuc 0 ∷ negsuc 0 ∷ [])
    ∷ []
    )

abbrev pub apex_too : Table
apex_too =
    table_of (pos 2) (3 ∷ 4 ∷ 5 ∷ []) pyramid.labels (
    (pos 2 ∷ pos 0 ∷ negsuc 0 ∷ negsuc 0 ∷ [])
    ∷ (pos 0 ∷ negsuc 1 ∷ pos 2 ∷ pos 2 ∷ [])
    ∷ (pos 0 ∷ pos 2 ∷ pos 0 ∷ pos 0 ∷ [])
    ∷ (pos 0 ∷ pos 0 ∷ pos 2 ∷ pos 0 ∷ [])
    ∷ (pos 0 ∷ pos 0 ∷ pos 0 ∷ pos 2 ∷ [])
    ∷ (pos 0 ∷ pos 2 ∷ negsuc 0 ∷ negsuc 0 ∷ [])
    ∷ (pos 0 ∷ pos 0 ∷ negsuc 0 ∷ pos 1 ∷ [])
    ∷ (pos 2 ∷ pos 0 ∷ negsuc 0 ∷ negsuc 0 ∷ [])
    ∷ []
    )

abbrev pub apex_low : Table
apex_low =
    table_of (pos 2) (2 ∷ 3 ∷ 4 ∷ []) pyramid.labels (
    (pos 2 ∷ negsuc 0 ∷ negsuc 0 ∷ pos 0 ∷ [])
    ∷ (pos 0 ∷ pos 2 ∷ pos 0 ∷ pos 0 ∷ [])
    ∷ (pos 0 ∷ pos 0 ∷ pos 2 ∷ pos 0 ∷ [])
    ∷ (pos 0 ∷ pos 0 ∷ pos 0 ∷ pos 2 ∷ [])
    ∷ (pos 0 ∷ pos 2 ∷ pos 2 ∷ negsuc 1 ∷ [])
    ∷ (pos 0 ∷ negsuc 0 ∷ pos 1 ∷ pos 0 ∷ [])
    ∷ (pos 0 ∷ pos 1 ∷ pos 1 ∷ negsuc 1 ∷ [])
    ∷ (pos 2 ∷ negsuc 0 ∷ negsuc 0 ∷ pos 0 ∷ [])
    ∷ []
    )

abbrev pub apex_lower : Table
apex_lower =
    table_of (pos 2) (2 ∷ 3 ∷ 5 ∷ []) pyramid.labels (
    (pos 2 ∷ negsuc 0 ∷ negsuc 0 ∷ pos 0 ∷ [])
    ∷ (pos 0 ∷ pos 2 ∷ pos 0 ∷ pos 0 ∷ [])
    ∷ (pos 0 ∷ pos 0 ∷ pos 2 ∷ pos 0 ∷ [])
    ∷ (pos 0 ∷ pos 2 ∷ pos 2 ∷ negsuc 1 ∷ [])
    ∷ (pos 0 ∷ pos 0 ∷ pos 0 ∷ pos 2 ∷ [])
    ∷ (pos 0 ∷ negsuc 0 ∷ pos 1 ∷ pos 0 ∷ [])
    ∷ (pos 0 ∷ negsuc 0 ∷ negsuc 0 ∷ pos 2 ∷ [])
    ∷ (pos 2 ∷ negsuc 0 ∷ negsuc 0 ∷ pos 0 ∷ [])
    ∷ []
    )

pub home_is_solved : IsSolved pyramid (1 ∷ 2 ∷ 4 ∷ []) home
home_is_solved = record {
  labels = has_enough_labels 4 rows (pos 0 ∷ pos 0 ∷ pos 0 ∷ []) refl;
  ascending = ((omega arith, (omega arith, tt)), ((omega arith, tt), (tt, tt)));
  rows = ((0, omega arith, refl), ((1, omega arith, refl), ((3, omega arith, refl), tt)));
  directions = to (negsuc 0) (negsuc 0) (pos 1) ∷ to (negsuc 0) (pos 0) (pos 0) ∷ to (pos 0) (negsuc 0) (pos 0) ∷ [];
  independent = (
    ((refl, tt, refl), tt, λ e. cc),
    (((refl, tt, refl), (refl, tt), λ e. cc), (((refl, tt, refl), (refl, (refl, tt)), λ e. cc), tt)),
  );
  lines = (refl, (refl, (refl, (refl, (refl, (refl, (refl, (refl, tt))))))));
  least = one_is_least pyramid (1 ∷ 2 ∷ 4 ∷ []) home refl;
}

-- at the apex row 1 is half the sum of two: the denominator is even
pub apex_is_solved : IsSolved pyramid (2 ∷ 4 ∷ 5 ∷ []) apex
apex_is_solved = record {
  labels = has_enough_labels 4 rows (pos 0 ∷ pos 0 ∷ pos 0 ∷ []) refl;
  ascending = ((omega arith, (omega arith, tt)), ((omega arith, tt), (tt, tt)));
  rows = ((1, omega arith, refl), ((3, omega arith, refl), ((4, omega arith, refl), tt)));
  directions = to (negsuc 0) (pos 0) (pos 0) ∷ to (pos 1) (negsuc 0) (negsuc 0) ∷ to (pos 1) (pos 1) (negsuc 0) ∷ [];
  independent = (
    ((refl, tt, refl), tt, λ e. cc),
    (((refl, tt, refl), (refl, tt), λ e. cc), (((refl, tt, refl), (refl, (refl, tt)), λ e. cc), tt)),
  );
  lines = (refl, (refl, (refl, (refl, (refl, (refl, (refl, (refl, tt))))))));
  least = two_is_least pyramid (2 ∷ 4 ∷ 5 ∷ []) apex refl 1 (0, omega arith, refl) (to (negsuc 0) (pos 1) (pos 1))
      (inside 4 rows (to (negsuc 0) (pos 1) (pos 1)) refl) refl refl (pos 0 ∷ negsuc 0 ∷ pos 0 ∷ []) refl;
}

pub apex_too_is_solved : IsSolved pyramid (3 ∷ 4 ∷ 5 ∷ []) apex_too
apex_too_is_solved = record {
  labels = has_enough_labels 4 rows (pos 0 ∷ pos 0 ∷ pos 0 ∷ []) refl;
  ascending = ((omega arith, (omega arith, tt)), ((omega arith, tt), (tt, tt)));
  rows = ((2, omega arith, refl), ((3, omega arith, refl), ((4, omega arith, refl), tt)));
  directions = to (pos 1) (pos 0) (pos 0) ∷ to (negsuc 0) (negsuc 0) (negsuc 0) ∷ to (negsuc 0) (pos 1) (negsuc 0) ∷ [];
  independent = (
    ((refl, tt, refl), tt, λ e. cc),
    (((refl, tt, refl), (refl, tt), λ e. cc), (((refl, tt, refl), (refl, (refl, tt)), λ e. cc), tt)),
  );
  lines = (refl, (refl, (refl, (refl, (refl, (refl, (refl, (refl, tt))))))));
  least = two_is_least pyramid (3 ∷ 4 ∷ 5 ∷ []) apex_too refl 1 (0, omega arith, refl) (to (pos 1) (pos 1) (pos 1))
      (inside 4 rows (to (pos 1) (pos 1) (pos 1)) refl) refl refl (pos 0 ∷ negsuc 0 ∷ pos 0 ∷ []) refl;
}

pub apex_low_is_solved : IsSolved pyramid (2 ∷ 3 ∷ 4 ∷ []) apex_low
apex_low_is_solved = record {
  labels = has_enough_labels 4 rows (pos 0 ∷ pos 0 ∷ pos 0 ∷ []) refl;
  ascending = ((omega arith, (omega arith, tt)), ((omega arith, tt), (tt, tt)));
  rows = ((1, omega arith, refl), ((2, omega arith, refl), ((3, omega arith, refl), tt)));
  directions = to (negsuc 0) (pos 1) (negsuc 0) ∷ to (pos 1) (pos 1) (negsuc 0) ∷ to (pos 0) (negsuc 0) (pos 0) ∷ [];
  independent = (
    ((refl, tt, refl), tt, λ e. cc),
    (((refl, tt, refl), (refl, tt), λ e. cc), (((refl, tt, refl), (refl, (refl, tt)), λ e. cc), tt)),
  );
  lines = (refl, (refl, (refl, (refl, (refl, (refl, (refl, (refl, tt))))))));
  least = two_is_least pyramid (2 ∷ 3 ∷ 4 ∷ []) apex_low refl 1 (0, omega arith, refl) (to (pos 1) (negsuc 0) (pos 1))
      (inside 4 rows (to (pos 1) (negsuc 0) (pos 1)) refl) refl refl (negsuc 0 ∷ pos 0 ∷ pos 0 ∷ []) refl;
}

pub apex_lower_is_solved : IsSolved pyramid (2 ∷ 3 ∷ 5 ∷ []) apex_lower
apex_lower_is_solved = record {
  labels = has_enough_labels 4 rows (pos 0 ∷ pos 0 ∷ pos 0 ∷ []) refl;
  ascending = ((omega arith, (omega arith, tt)), ((omega arith, tt), (tt, tt)));
  rows = ((1, omega arith, refl), ((2, omega arith, refl), ((4, omega arith, refl), tt)));
  directions = to (negsuc 0) (negsuc 0) (negsuc 0) ∷ to (pos 1) (negsuc 0) (negsuc 0) ∷ to (pos 0) (pos 1) (pos 0) ∷ [];
  independent = (
    ((refl, tt, refl), tt, λ e. cc),
    (((refl, tt, refl), (refl, tt), λ e. cc), (((refl, tt, refl), (refl, (refl, tt)), λ e. cc), tt)),
  );
  lines = (refl, (refl, (refl, (refl, (refl, (refl, (refl, (refl, tt))))))));
  least = two_is_least pyramid (2 ∷ 3 ∷ 5 ∷ []) apex_lower refl 1 (0, omega arith, refl) (to (pos 1) (pos 1) (pos 1))
      (inside 4 rows (to (pos 1) (pos 1) (pos 1)) refl) refl refl (negsuc 0 ∷ pos 0 ∷ pos 0 ∷ []) refl;
}
