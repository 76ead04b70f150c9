-- The triangle with the row 1 - x - y >= 0 first: the greatest row of the root decides whether a column may enter. A
-- wrong definition does not check.
use Rattle.std.proofs.Common.{inl, inr, ℕ, pos, negsuc, List, [], ◌∷◌, refl, arith}
use Rattle.std.specs.Prelude.{◌≤ℤ◌}
use Rattle.std.proofs.lemmas.Int.{ints}
use Rattle.poly_num.specs.Vectors.{Vector}
use Rattle.poly_model.specs.Spaces.{Space}
use Rattle.poly_model.specs.Dictionaries.{Table}
use Rattle.poly_model.specs.LexOrder.{rows_in}
use Rattle.poly_model.specs.Tree.{IsFeasibleRoot, IsLexFeasible, MayEnter, Enters, Leaves, IsParent}
use Rattle.linear_laws.proofs.Members.{all_at}
use Rattle.tree_laws.proofs.KnownTables.{space_of, has_enough_labels, table_of, IsSolved, solved, one_is_least}
use Rattle.tree_laws.proofs.KnownTests.{is_lex_feasible, leaves, enters}

-- rows 1: 1 - x - y >= 0, 2: x >= 0, 3: y >= 0; the root is the corner (0, 1)
abbrev rows : List Vector
rows =
    (pos 1 ∷ negsuc 0 ∷ negsuc 0 ∷ [])
    ∷ (pos 0 ∷ pos 1 ∷ pos 0 ∷ [])
    ∷ (pos 0 ∷ pos 0 ∷ pos 1 ∷ [])
    ∷ []

abbrev turned_triangle : Space
turned_triangle = space_of 3 rows

abbrev root : List ℕ
root = 1 ∷ 2 ∷ []

-- ---- the dictionaries of the root and of the corner (0, 0)
-- at (0, 1)
abbrev home : Table
home =
    table_of (pos 1) (1 ∷ 2 ∷ []) turned_triangle.labels (
    (pos 0 ∷ pos 1 ∷ pos 0 ∷ [])
    ∷ (pos 0 ∷ pos 0 ∷ pos 1 ∷ [])
    ∷ (pos 1 ∷ negsuc 0 ∷ negsuc 0 ∷ [])
    ∷ (pos 0 ∷ pos 0 ∷ pos 1 ∷ [])
    ∷ (pos 1 ∷ negsuc 0 ∷ negsuc 0 ∷ [])
    ∷ []
    )

-- at (0, 0)
abbrev foot : Table
foot =
    table_of (pos 1) (2 ∷ 3 ∷ []) turned_triangle.labels (
    (pos 1 ∷ negsuc 0 ∷ negsuc 0 ∷ [])
    ∷ (pos 0 ∷ pos 1 ∷ pos 0 ∷ [])
    ∷ (pos 0 ∷ pos 0 ∷ pos 1 ∷ [])
    ∷ (pos 0 ∷ pos 1 ∷ pos 0 ∷ [])
    ∷ (pos 0 ∷ pos 0 ∷ pos 1 ∷ [])
    ∷ []
    )

home_is_solved : IsSolved turned_triangle (1 ∷ 2 ∷ []) home
home_is_solved = record {
  labels = has_enough_labels 3 rows (pos 0 ∷ pos 0 ∷ []) refl;
  ascending = ((omega arith, tt), (tt, tt));
  rows = ((0, omega arith, refl), ((1, omega arith, refl), tt));
  directions = (pos 0 ∷ pos 0 ∷ negsuc 0 ∷ []) ∷ (pos 0 ∷ pos 1 ∷ negsuc 0 ∷ []) ∷ [];
  independent = (((refl, tt, refl), tt, λ e. cc), (((refl, tt, refl), (refl, tt), λ e. cc), tt));
  lines = (refl, (refl, (refl, (refl, (refl, tt)))));
  least = one_is_least turned_triangle (1 ∷ 2 ∷ []) home refl;
}

foot_is_solved : IsSolved turned_triangle (2 ∷ 3 ∷ []) foot
foot_is_solved = record {
  labels = has_enough_labels 3 rows (pos 0 ∷ pos 0 ∷ []) refl;
  ascending = ((omega arith, tt), (tt, tt));
  rows = ((1, omega arith, refl), ((2, omega arith, refl), tt));
  directions = (pos 0 ∷ pos 1 ∷ pos 0 ∷ []) ∷ (pos 0 ∷ pos 0 ∷ pos 1 ∷ []) ∷ [];
  independent = (((refl, tt, refl), tt, λ e. cc), (((refl, tt, refl), (refl, tt), λ e. cc), tt));
  lines = (refl, (refl, (refl, (refl, (refl, tt)))));
  least = one_is_least turned_triangle (2 ∷ 3 ∷ []) foot refl;
}

home_is_feasible : IsFeasibleRoot turned_triangle root home
home_is_feasible = record {
  dictionary = solved turned_triangle root home home_is_solved;
  constants = all_at (λ i. pos 0 ≤ℤ home.constant i) (rows_in turned_triangle.labels)
      (omega (arith, ints), (omega (arith, ints), (omega (arith, ints), tt)));
}

foot_is_feasible : IsLexFeasible turned_triangle root (2 ∷ 3 ∷ []) foot
foot_is_feasible =
    is_lex_feasible turned_triangle root (2 ∷ 3 ∷ []) foot
    (solved turned_triangle (2 ∷ 3 ∷ []) foot foot_is_solved)
    (inl (omega (arith, ints)), tt)

-- ---- in column 2 row 1 is negative, but row 2 is greater and positive; in column 3 row 2 is 0
second_may_not_enter : MayEnter turned_triangle.labels root foot 2 → ⊥
second_may_not_enter (inl h) = omega (arith, ints)
second_may_not_enter (inr (e, h)) = cc

third_may_enter : MayEnter turned_triangle.labels root foot 3
third_may_enter = inr (refl, inl (omega (arith, ints)))

third_enters : Enters turned_triangle.labels root (2 ∷ 3 ∷ []) foot 3
third_enters =
    enters turned_triangle root (2 ∷ 3 ∷ []) foot 3 (1, omega arith, refl) third_may_enter
    (λ m. absurd (second_may_not_enter m), (λ m. inl refl, tt))

first_leaves : Leaves turned_triangle.labels root (2 ∷ 3 ∷ []) foot 3 1
first_leaves =
    leaves turned_triangle root (2 ∷ 3 ∷ []) foot 3 1 (0, omega arith, refl) (omega (arith, ints))
    (λ h. inr (refl, inr (refl, tt)), tt)

foot_parent : IsParent turned_triangle.labels root (2 ∷ 3 ∷ []) foot root
foot_parent = record {
  s = 3;
  enters = third_enters;
  neighbour = record { column = (1, omega arith, refl); r = 1; leaves = first_leaves; exchange = refl };
}
