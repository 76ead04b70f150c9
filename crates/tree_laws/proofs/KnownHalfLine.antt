-- The half line x >= 1 with the row x >= 0 before it: of its two cobases one is feasible. A wrong definition does not
-- check.
use Rattle.std.proofs.Common.{◌≡◌, ◌≢◌, inl, inr, pos, negsuc, List, [], ◌∷◌, refl, subst, arith}
use Rattle.std.specs.Prelude.{◌≤ℤ◌, Some, None}
use Rattle.std.proofs.lemmas.Int.{ints}
use Rattle.poly_num.specs.Vectors.{Vector, ◌·◌}
use Rattle.poly_num.specs.Divisors.{gcd_in, gcd_of}
use Rattle.poly_num.proofs.PrimitiveLemmas.{primitive_from_gcd}
use Rattle.poly_model.specs.Spaces.{Space}
use Rattle.poly_model.specs.Dictionaries.{Table}
use Rattle.poly_model.specs.LexOrder.{IsPositive, rows_in, order, list_of}
use Rattle.poly_model.specs.Tree.{IsFeasibleRoot, IsLexFeasible}
use Rattle.poly_model.specs.Tree.{ShowsRay, IsShownAt}
use Rattle.linear_laws.proofs.Members.{all_at}
use Rattle.tree_laws.proofs.AnyTable.{same_list}
use Rattle.tree_laws.proofs.OrderLemmas.{is_row_outside}
use Rattle.tree_laws.proofs.KnownTables.{space_of, has_enough_labels, table_of, IsSolved, solved, one_is_least}
use Rattle.tree_laws.proofs.KnownTests.{is_lex_feasible, shows_point, shows_ray}

-- rows 1: x >= 0, 2: x - 1 >= 0
abbrev rows : List Vector
rows =
    (pos 0 ∷ pos 1 ∷ [])
    ∷ (negsuc 0 ∷ pos 1 ∷ [])
    ∷ []

abbrev half_line : Space
half_line = space_of 2 rows

-- ---- the dictionaries of the points 0 and 1
-- at 0
abbrev wrong : Table
wrong =
    table_of (pos 1) (1 ∷ []) half_line.labels (
    (pos 0 ∷ pos 1 ∷ [])
    ∷ (negsuc 0 ∷ pos 1 ∷ [])
    ∷ (pos 0 ∷ pos 1 ∷ [])
    ∷ []
    )

-- at 1
abbrev home : Table
home =
    table_of (pos 1) (2 ∷ []) half_line.labels (
    (pos 1 ∷ pos 1 ∷ [])
    ∷ (pos 0 ∷ pos 1 ∷ [])
    ∷ (pos 1 ∷ pos 1 ∷ [])
    ∷ []
    )

wrong_is_solved : IsSolved half_line (1 ∷ []) wrong
wrong_is_solved = record {
  labels = has_enough_labels 2 rows (pos 0 ∷ []) refl;
  ascending = (tt, tt);
  rows = ((0, omega arith, refl), tt);
  directions = (pos 0 ∷ pos 1 ∷ []) ∷ [];
  independent = (((refl, tt, refl), tt, λ e. cc), tt);
  lines = (refl, (refl, (refl, tt)));
  least = one_is_least half_line (1 ∷ []) wrong refl;
}

home_is_solved : IsSolved half_line (2 ∷ []) home
home_is_solved = record {
  labels = has_enough_labels 2 rows (pos 0 ∷ []) refl;
  ascending = (tt, tt);
  rows = ((1, omega arith, refl), tt);
  directions = (pos 0 ∷ pos 1 ∷ []) ∷ [];
  independent = (((refl, tt, refl), tt, λ e. cc), tt);
  lines = (refl, (refl, (refl, tt)));
  least = one_is_least half_line (2 ∷ []) home refl;
}

-- row 2 is negative at 0
wrong_is_not_feasible : IsFeasibleRoot half_line (1 ∷ []) wrong → ⊥
wrong_is_not_feasible h = let n = h.constants 2 (1, omega arith, refl) in omega (arith, ints)

list_of_row_two : list_of half_line.labels (2 ∷ []) (1 ∷ []) wrong 2 ≡ negsuc 0 ∷ negsuc 0 ∷ []
list_of_row_two = refl

wrong_lists_are_not_positive : (u : Table) → IsLexFeasible half_line (2 ∷ []) (1 ∷ []) u → ⊥
wrong_lists_are_not_positive u h =
    by
    (subst IsPositive
    (same_list half_line (2 ∷ []) (1 ∷ []) u wrong h.dictionary (solved half_line (1 ∷ []) wrong wrong_is_solved) 2
    (1, omega arith, refl))
    (h.lists 2 (is_row_outside half_line (1 ∷ []) 2 (0, omega arith, refl))))
  where
    by : IsPositive (negsuc 0 ∷ negsuc 0 ∷ []) → ⊥
    by (inl h) = omega (arith, ints)
    by (inr (e, h)) = cc

home_is_feasible : IsFeasibleRoot half_line (2 ∷ []) home
home_is_feasible = record {
  dictionary = solved half_line (2 ∷ []) home home_is_solved;
  constants = all_at (λ i. pos 0 ≤ℤ home.constant i) (rows_in half_line.labels)
      (omega (arith, ints), (omega (arith, ints), tt));
}

-- the root is not the first row, and is later than it
root_is_last : order half_line.labels (2 ∷ []) ≡ 1 ∷ 2 ∷ []
root_is_last = refl

list_of_row_one : list_of half_line.labels (2 ∷ []) (2 ∷ []) home 1 ≡ pos 1 ∷ pos 1 ∷ []
list_of_row_one = refl

home_lists_are_positive : IsLexFeasible half_line (2 ∷ []) (2 ∷ []) home
home_lists_are_positive =
    is_lex_feasible half_line (2 ∷ []) (2 ∷ []) home (solved half_line (2 ∷ []) home home_is_solved)
    (inl (omega (arith, ints)), tt)

-- ---- it shows the point 1 and the way up
point_is_shown : IsShownAt half_line (2 ∷ []) (2 ∷ []) home None (pos 1 ∷ pos 1 ∷ [])
unfolding gcd_in gcd_of
point_is_shown = (
  shows_point half_line (2 ∷ []) (2 ∷ []) home (λ z. cc, tt),
  record {
    primitive = primitive_from_gcd (pos 1 ∷ pos 1 ∷ []) refl;
    inside = record { width = refl; fixed = tt };
    finite = omega (arith, ints);
    nothing = all_at (λ k. half_line.form k · (pos 1 ∷ pos 1 ∷ []) ≡ pos 0) (2 ∷ []) (refl, tt);
  },
)

up : ShowsRay half_line.labels (2 ∷ []) (2 ∷ []) home 2
up =
    shows_ray half_line (2 ∷ []) (2 ∷ []) home 2 (0, omega arith, refl) (omega (arith, ints), tt)
    (λ n. absurd (n refl), tt)

ray_is_shown : IsShownAt half_line (2 ∷ []) (2 ∷ []) home (Some 2) (pos 0 ∷ pos 1 ∷ [])
unfolding gcd_in gcd_of
ray_is_shown = (
  up,
  record {
    primitive = primitive_from_gcd (pos 0 ∷ pos 1 ∷ []) refl;
    inside = record { width = refl; fixed = tt };
    level = refl;
    here = omega (arith, ints);
    nothing = all_at (λ k. k ≢ 2 → half_line.form k · (pos 0 ∷ pos 1 ∷ []) ≡ pos 0) (2 ∷ []) (λ n. absurd (n refl), tt);
  },
)
