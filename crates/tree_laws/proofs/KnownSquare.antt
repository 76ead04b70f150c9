-- The square 0 <= x <= 1, 0 <= y <= 1 under the root {1, 2}: its dictionaries, lists, parents and points, known from a
-- drawing. A wrong definition of the tree of cobases does not check.
use Rattle.std.proofs.Common.{pos, negsuc, List, [], ◌∷◌, refl, arith}
use Rattle.poly_num.specs.Vectors.{Vector}
use Rattle.poly_model.specs.Spaces.{Space}
use Rattle.poly_model.specs.Dictionaries.{Table}
use Rattle.tree_laws.proofs.KnownTables.{space_of, has_enough_labels, table_of, IsSolved, one_is_least}

-- rows 1: x >= 0, 2: y >= 0, 3: 1 - x >= 0, 4: 1 - y >= 0
abbrev rows : List Vector
rows =
    (pos 0 ∷ pos 1 ∷ pos 0 ∷ [])
    ∷ (pos 0 ∷ pos 0 ∷ pos 1 ∷ [])
    ∷ (pos 1 ∷ negsuc 0 ∷ pos 0 ∷ [])
    ∷ (pos 1 ∷ pos 0 ∷ negsuc 0 ∷ [])
    ∷ []

abbrev pub square : Space
square = space_of 3 rows

-- ---- dictionaries: each row, x and y, solved for the two of the key
-- at (0, 0), x and y themselves
abbrev pub home : Table
home =
    table_of (pos 1) (1 ∷ 2 ∷ []) square.labels (
    (pos 0 ∷ pos 1 ∷ pos 0 ∷ [])
    ∷ (pos 0 ∷ pos 0 ∷ pos 1 ∷ [])
    ∷ (pos 1 ∷ negsuc 0 ∷ pos 0 ∷ [])
    ∷ (pos 1 ∷ pos 0 ∷ negsuc 0 ∷ [])
    ∷ (pos 0 ∷ pos 1 ∷ pos 0 ∷ [])
    ∷ (pos 0 ∷ pos 0 ∷ pos 1 ∷ [])
    ∷ []
    )

-- at (1, 1)
abbrev pub opposite : Table
opposite =
    table_of (pos 1) (3 ∷ 4 ∷ []) square.labels (
    (pos 1 ∷ negsuc 0 ∷ pos 0 ∷ [])
    ∷ (pos 1 ∷ pos 0 ∷ negsuc 0 ∷ [])
    ∷ (pos 0 ∷ pos 1 ∷ pos 0 ∷ [])
    ∷ (pos 0 ∷ pos 0 ∷ pos 1 ∷ [])
    ∷ (pos 1 ∷ negsuc 0 ∷ pos 0 ∷ [])
    ∷ (pos 1 ∷ pos 0 ∷ negsuc 0 ∷ [])
    ∷ []
    )

-- at (0, 1)
abbrev pub above_home : Table
above_home =
    table_of (pos 1) (1 ∷ 4 ∷ []) square.labels (
    (pos 0 ∷ pos 1 ∷ pos 0 ∷ [])
    ∷ (pos 1 ∷ pos 0 ∷ negsuc 0 ∷ [])
    ∷ (pos 1 ∷ negsuc 0 ∷ pos 0 ∷ [])
    ∷ (pos 0 ∷ pos 0 ∷ pos 1 ∷ [])
    ∷ (pos 0 ∷ pos 1 ∷ pos 0 ∷ [])
    ∷ (pos 1 ∷ pos 0 ∷ negsuc 0 ∷ [])
    ∷ []
    )

-- at (1, 0)
abbrev pub beside_home : Table
beside_home =
    table_of (pos 1) (2 ∷ 3 ∷ []) square.labels (
    (pos 1 ∷ pos 0 ∷ negsuc 0 ∷ [])
    ∷ (pos 0 ∷ pos 1 ∷ pos 0 ∷ [])
    ∷ (pos 0 ∷ pos 0 ∷ pos 1 ∷ [])
    ∷ (pos 1 ∷ negsuc 0 ∷ pos 0 ∷ [])
    ∷ (pos 1 ∷ pos 0 ∷ negsuc 0 ∷ [])
    ∷ (pos 0 ∷ pos 1 ∷ pos 0 ∷ [])
    ∷ []
    )

pub home_is_solved : IsSolved square (1 ∷ 2 ∷ []) home
home_is_solved = record {
  labels = has_enough_labels 3 rows (pos 0 ∷ pos 0 ∷ []) refl;
  ascending = ((omega arith, tt), (tt, tt));
  rows = ((0, omega arith, refl), ((1, omega arith, refl), tt));
  directions = (pos 0 ∷ pos 1 ∷ pos 0 ∷ []) ∷ (pos 0 ∷ pos 0 ∷ pos 1 ∷ []) ∷ [];
  independent = (((refl, tt, refl), tt, λ e. cc), (((refl, tt, refl), (refl, tt), λ e. cc), tt));
  lines = (refl, (refl, (refl, (refl, (refl, (refl, tt))))));
  least = one_is_least square (1 ∷ 2 ∷ []) home refl;
}

pub opposite_is_solved : IsSolved square (3 ∷ 4 ∷ []) opposite
opposite_is_solved = record {
  labels = has_enough_labels 3 rows (pos 0 ∷ pos 0 ∷ []) refl;
  ascending = ((omega arith, tt), (tt, tt));
  rows = ((2, omega arith, refl), ((3, omega arith, refl), tt));
  directions = (pos 0 ∷ negsuc 0 ∷ pos 0 ∷ []) ∷ (pos 0 ∷ pos 0 ∷ negsuc 0 ∷ []) ∷ [];
  independent = (((refl, tt, refl), tt, λ e. cc), (((refl, tt, refl), (refl, tt), λ e. cc), tt));
  lines = (refl, (refl, (refl, (refl, (refl, (refl, tt))))));
  least = one_is_least square (3 ∷ 4 ∷ []) opposite refl;
}

pub above_home_is_solved : IsSolved square (1 ∷ 4 ∷ []) above_home
above_home_is_solved = record {
  labels = has_enough_labels 3 rows (pos 0 ∷ pos 0 ∷ []) refl;
  ascending = ((omega arith, tt), (tt, tt));
  rows = ((0, omega arith, refl), ((3, omega arith, refl), tt));
  directions = (pos 0 ∷ pos 1 ∷ pos 0 ∷ []) ∷ (pos 0 ∷ pos 0 ∷ negsuc 0 ∷ []) ∷ [];
  independent = (((refl, tt, refl), tt, λ e. cc), (((refl, tt, refl), (refl, tt), λ e. cc), tt));
  lines = (refl, (refl, (refl, (refl, (refl, (refl, tt))))));
  least = one_is_least square (1 ∷ 4 ∷ []) above_home refl;
}

pub beside_home_is_solved : IsSolved square (2 ∷ 3 ∷ []) beside_home
beside_home_is_solved = record {
  labels = has_enough_labels 3 rows (pos 0 ∷ pos 0 ∷ []) refl;
  ascending = ((omega arith, tt), (tt, tt));
  rows = ((1, omega arith, refl), ((2, omega arith, refl), tt));
  directions = (pos 0 ∷ pos 0 ∷ pos 1 ∷ []) ∷ (pos 0 ∷ negsuc 0 ∷ pos 0 ∷ []) ∷ [];
  independent = (((refl, tt, refl), tt, λ e. cc), (((refl, tt, refl), (refl, tt), λ e. cc), tt));
  lines = (refl, (refl, (refl, (refl, (refl, (refl, tt))))));
  least = one_is_least square (2 ∷ 3 ∷ []) beside_home refl;
}
