-- The half strip x >= 0, 0 <= y <= 1 under the root {1, 2}: its ray is along a column of both cobases, and is shown
-- where the order relative to the root says so, not where the order of numbers does. A wrong definition does not
-- check.
use Rattle.std.proofs.Common.{◌≡◌, ◌≢◌, inl, inr, ℕ, pos, negsuc, List, [], ◌∷◌, refl, arith}
use Rattle.std.specs.Prelude.{◌≤ℤ◌, Some}
use Rattle.std.proofs.lemmas.Int.{ints}
use Rattle.poly_num.specs.Vectors.{Vector, ◌·◌}
use Rattle.poly_num.specs.Divisors.{gcd_in, gcd_of}
use Rattle.poly_num.proofs.PrimitiveLemmas.{primitive_from_gcd}
use Rattle.poly_model.specs.Spaces.{Space}
use Rattle.poly_model.specs.Dictionaries.{Table}
use Rattle.poly_model.specs.LexOrder.{IsPositive, rows_in, order}
use Rattle.poly_model.specs.Tree.{IsFeasibleRoot, IsLexFeasible}
use Rattle.poly_model.specs.Tree.{ShowsRay, IsAlongColumn, IsShownAt}
use Rattle.linear_laws.proofs.Members.{all_at}
use Rattle.tree_laws.proofs.OrderLemmas.{is_row_outside}
use Rattle.tree_laws.proofs.KnownTables.{space_of, has_enough_labels, table_of, IsSolved, solved, one_is_least}
use Rattle.tree_laws.proofs.KnownTests.{is_lex_feasible, shows_ray}

-- rows 1: y >= 0, 2: x >= 0, 3: 1 - y >= 0
abbrev rows : List Vector
rows =
    (pos 0 ∷ pos 0 ∷ pos 1 ∷ [])
    ∷ (pos 0 ∷ pos 1 ∷ pos 0 ∷ [])
    ∷ (pos 1 ∷ pos 0 ∷ negsuc 0 ∷ [])
    ∷ []

abbrev half_strip : Space
half_strip = space_of 3 rows

abbrev root : List ℕ
root = 1 ∷ 2 ∷ []

-- ---- the dictionaries of the corners (0, 0) and (0, 1)
-- at (0, 0)
abbrev home : Table
home =
    table_of (pos 1) (1 ∷ 2 ∷ []) half_strip.labels (
    (pos 0 ∷ pos 1 ∷ pos 0 ∷ [])
    ∷ (pos 0 ∷ pos 0 ∷ pos 1 ∷ [])
    ∷ (pos 1 ∷ negsuc 0 ∷ pos 0 ∷ [])
    ∷ (pos 0 ∷ pos 0 ∷ pos 1 ∷ [])
    ∷ (pos 0 ∷ pos 1 ∷ pos 0 ∷ [])
    ∷ []
    )

-- at (0, 1)
abbrev upper : Table
upper =
    table_of (pos 1) (2 ∷ 3 ∷ []) half_strip.labels (
    (pos 1 ∷ pos 0 ∷ negsuc 0 ∷ [])
    ∷ (pos 0 ∷ pos 1 ∷ pos 0 ∷ [])
    ∷ (pos 0 ∷ pos 0 ∷ pos 1 ∷ [])
    ∷ (pos 0 ∷ pos 1 ∷ pos 0 ∷ [])
    ∷ (pos 1 ∷ pos 0 ∷ negsuc 0 ∷ [])
    ∷ []
    )

home_is_solved : IsSolved half_strip (1 ∷ 2 ∷ []) home
home_is_solved = record {
  labels = has_enough_labels 3 rows (pos 0 ∷ pos 0 ∷ []) refl;
  ascending = ((omega arith, tt), (tt, tt));
  rows = ((0, omega arith, refl), ((1, omega arith, refl), tt));
  directions = (pos 0 ∷ pos 0 ∷ pos 1 ∷ []) ∷ (pos 0 ∷ pos 1 ∷ pos 0 ∷ []) ∷ [];
  independent = (((refl, tt, refl), tt, λ e. cc), (((refl, tt, refl), (refl, tt), λ e. cc), tt));
  lines = (refl, (refl, (refl, (refl, (refl, tt)))));
  least = one_is_least half_strip (1 ∷ 2 ∷ []) home refl;
}

upper_is_solved : IsSolved half_strip (2 ∷ 3 ∷ []) upper
upper_is_solved = record {
  labels = has_enough_labels 3 rows (pos 0 ∷ pos 0 ∷ []) refl;
  ascending = ((omega arith, tt), (tt, tt));
  rows = ((1, omega arith, refl), ((2, omega arith, refl), tt));
  directions = (pos 0 ∷ pos 1 ∷ pos 0 ∷ []) ∷ (pos 0 ∷ pos 0 ∷ negsuc 0 ∷ []) ∷ [];
  independent = (((refl, tt, refl), tt, λ e. cc), (((refl, tt, refl), (refl, tt), λ e. cc), tt));
  lines = (refl, (refl, (refl, (refl, (refl, tt)))));
  least = one_is_least half_strip (2 ∷ 3 ∷ []) upper refl;
}

root_is_last : order half_strip.labels root ≡ 3 ∷ 1 ∷ 2 ∷ []
root_is_last = refl

home_is_feasible : IsFeasibleRoot half_strip root home
home_is_feasible = record {
  dictionary = solved half_strip root home home_is_solved;
  constants = all_at (λ i. pos 0 ≤ℤ home.constant i) (rows_in half_strip.labels)
      (omega (arith, ints), (omega (arith, ints), (omega (arith, ints), tt)));
}

upper_is_feasible : IsLexFeasible half_strip root (2 ∷ 3 ∷ []) upper
upper_is_feasible =
    is_lex_feasible half_strip root (2 ∷ 3 ∷ []) upper (solved half_strip (2 ∷ 3 ∷ []) upper upper_is_solved)
    (inl (omega (arith, ints)), tt)

-- ---- the ray test: rows 1 and 3 are 0 along column 2, and row 1 is the greater of them
home_shows : ShowsRay half_strip.labels root root home 2
home_shows =
    shows_ray half_strip root root home 2 (1, omega arith, refl) (omega (arith, ints), tt)
    (λ n. inl (omega (arith, ints)), (λ n. absurd (n refl), tt))

upper_does_not : ShowsRay half_strip.labels root (2 ∷ 3 ∷ []) upper 2 → ⊥
upper_does_not h = by (h.others 3 (1, omega arith, refl) (λ e. omega arith))
  where
    by : IsPositive (negsuc 0 ∷ pos 1 ∷ []) → ⊥
    by (inl h) = omega (arith, ints)
    by (inr (e, h)) = cc

-- and none in the column of 1, along which row 3 comes to its end
not_up : ShowsRay half_strip.labels root root home 1 → ⊥
not_up h = let n = h.none 3 (is_row_outside half_strip root 3 (0, omega arith, refl)) in omega (arith, ints)

-- the axis of x is along both columns
along_the_root : IsAlongColumn half_strip root 2 (pos 0 ∷ pos 1 ∷ pos 0 ∷ [])
unfolding gcd_in gcd_of
along_the_root = record {
  primitive = primitive_from_gcd (pos 0 ∷ pos 1 ∷ pos 0 ∷ []) refl;
  inside = record { width = refl; fixed = tt };
  level = refl;
  here = omega (arith, ints);
  nothing = all_at (λ k. k ≢ 2 → half_strip.form k · (pos 0 ∷ pos 1 ∷ pos 0 ∷ []) ≡ pos 0) root
      (λ n. refl, (λ n. absurd (n refl), tt));
}

along_the_upper : IsAlongColumn half_strip (2 ∷ 3 ∷ []) 2 (pos 0 ∷ pos 1 ∷ pos 0 ∷ [])
unfolding gcd_in gcd_of
along_the_upper = record {
  primitive = primitive_from_gcd (pos 0 ∷ pos 1 ∷ pos 0 ∷ []) refl;
  inside = record { width = refl; fixed = tt };
  level = refl;
  here = omega (arith, ints);
  nothing = all_at (λ k. k ≢ 2 → half_strip.form k · (pos 0 ∷ pos 1 ∷ pos 0 ∷ []) ≡ pos 0) (2 ∷ 3 ∷ [])
      (λ n. absurd (n refl), (λ n. refl, tt));
}

axis_is_shown : IsShownAt half_strip root root home (Some 2) (pos 0 ∷ pos 1 ∷ pos 0 ∷ [])
axis_is_shown = (home_shows, along_the_root)
