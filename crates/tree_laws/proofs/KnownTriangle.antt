-- The triangle x >= 0, y >= 0, x + y <= 1, with a root that the key below it meets in one row: the column that enters
-- is the least by the order relative to the root, and not by number. A wrong definition does not check.
use Rattle.std.proofs.Common.{◌≡◌, inl, inr, ℕ, pos, negsuc, List, [], ◌∷◌, refl, arith}
use Rattle.std.specs.Prelude.{◌≤ℤ◌}
use Rattle.std.proofs.lemmas.Int.{ints}
use Rattle.poly_num.specs.Vectors.{Vector}
use Rattle.poly_model.specs.Spaces.{Space}
use Rattle.poly_model.specs.Dictionaries.{Table}
use Rattle.poly_model.specs.LexOrder.{IsEarlier, rows_in, outside, order, list_of}
use Rattle.poly_model.specs.Tree.{IsFeasibleRoot, IsLexFeasible, MayEnter, Enters, Leaves, IsParent}
use Rattle.linear_laws.specs.Distinct.{AreDistinct}
use Rattle.linear_laws.proofs.Members.{all_at}
use Rattle.dictionary_laws.proofs.KeyExchange.{ascending_distinct}
use Rattle.tree_laws.proofs.Entering.{enters_is_one}
use Rattle.tree_laws.proofs.KnownTables.{space_of, has_enough_labels, table_of, IsSolved, solved, one_is_least}
use Rattle.tree_laws.proofs.KnownTests.{is_lex_feasible, leaves, enters}

-- rows 1: x >= 0, 2: 1 - x - y >= 0, 3: y >= 0; the root is the corner (0, 1)
abbrev rows : List Vector
rows =
    (pos 0 ∷ pos 1 ∷ pos 0 ∷ [])
    ∷ (pos 1 ∷ negsuc 0 ∷ negsuc 0 ∷ [])
    ∷ (pos 0 ∷ pos 0 ∷ pos 1 ∷ [])
    ∷ []

abbrev triangle : Space
triangle = space_of 3 rows

abbrev root : List ℕ
root = 1 ∷ 2 ∷ []

-- ---- the dictionaries of the root and of the corner (0, 0)
-- at (0, 1)
abbrev home : Table
home =
    table_of (pos 1) (1 ∷ 2 ∷ []) triangle.labels (
    (pos 0 ∷ pos 1 ∷ pos 0 ∷ [])
    ∷ (pos 0 ∷ pos 0 ∷ pos 1 ∷ [])
    ∷ (pos 1 ∷ negsuc 0 ∷ negsuc 0 ∷ [])
    ∷ (pos 0 ∷ pos 1 ∷ pos 0 ∷ [])
    ∷ (pos 1 ∷ negsuc 0 ∷ negsuc 0 ∷ [])
    ∷ []
    )

-- at (0, 0)
abbrev foot : Table
foot =
    table_of (pos 1) (1 ∷ 3 ∷ []) triangle.labels (
    (pos 0 ∷ pos 1 ∷ pos 0 ∷ [])
    ∷ (pos 1 ∷ negsuc 0 ∷ negsuc 0 ∷ [])
    ∷ (pos 0 ∷ pos 0 ∷ pos 1 ∷ [])
    ∷ (pos 0 ∷ pos 1 ∷ pos 0 ∷ [])
    ∷ (pos 0 ∷ pos 0 ∷ pos 1 ∷ [])
    ∷ []
    )

home_is_solved : IsSolved triangle (1 ∷ 2 ∷ []) home
home_is_solved = record {
  labels = has_enough_labels 3 rows (pos 0 ∷ pos 0 ∷ []) refl;
  ascending = ((omega arith, tt), (tt, tt));
  rows = ((0, omega arith, refl), ((1, omega arith, refl), tt));
  directions = (pos 0 ∷ pos 1 ∷ negsuc 0 ∷ []) ∷ (pos 0 ∷ pos 0 ∷ negsuc 0 ∷ []) ∷ [];
  independent = (((refl, tt, refl), tt, λ e. cc), (((refl, tt, refl), (refl, tt), λ e. cc), tt));
  lines = (refl, (refl, (refl, (refl, (refl, tt)))));
  least = one_is_least triangle (1 ∷ 2 ∷ []) home refl;
}

foot_is_solved : IsSolved triangle (1 ∷ 3 ∷ []) foot
foot_is_solved = record {
  labels = has_enough_labels 3 rows (pos 0 ∷ pos 0 ∷ []) refl;
  ascending = ((omega arith, tt), (tt, tt));
  rows = ((0, omega arith, refl), ((2, omega arith, refl), tt));
  directions = (pos 0 ∷ pos 1 ∷ pos 0 ∷ []) ∷ (pos 0 ∷ pos 0 ∷ pos 1 ∷ []) ∷ [];
  independent = (((refl, tt, refl), tt, λ e. cc), (((refl, tt, refl), (refl, tt), λ e. cc), tt));
  lines = (refl, (refl, (refl, (refl, (refl, tt)))));
  least = one_is_least triangle (1 ∷ 3 ∷ []) foot refl;
}

rows_are_distinct : AreDistinct (rows_in triangle.labels)
rows_are_distinct =
    ascending_distinct (rows_in triangle.labels) ((omega arith, (omega arith, tt)), ((omega arith, tt), (tt, tt)))

home_is_feasible : IsFeasibleRoot triangle root home
home_is_feasible = record {
  dictionary = solved triangle root home home_is_solved;
  constants = all_at (λ i. pos 0 ≤ℤ home.constant i) (rows_in triangle.labels)
      (omega (arith, ints), (omega (arith, ints), (omega (arith, ints), tt)));
}

foot_is_feasible : IsLexFeasible triangle root (1 ∷ 3 ∷ []) foot
foot_is_feasible =
    is_lex_feasible triangle root (1 ∷ 3 ∷ []) foot (solved triangle (1 ∷ 3 ∷ []) foot foot_is_solved)
    (inl (omega (arith, ints)), tt)

-- ---- the order
rows_outside_the_root : outside triangle.labels root ≡ 3 ∷ []
rows_outside_the_root = refl

root_is_last : order triangle.labels root ≡ 3 ∷ 1 ∷ 2 ∷ []
root_is_last = refl

third_is_earlier : IsEarlier triangle.labels root 3 1
third_is_earlier = inl (refl, (0, omega arith, refl))

list_of_row_two : list_of triangle.labels root (1 ∷ 3 ∷ []) foot 2 ≡ pos 1 ∷ pos 1 ∷ []
list_of_row_two = refl

-- ---- both columns of {1, 3} may enter, as row 2 is negative there: in column 1 row 1 is positive, but row 2 decides
first_may_enter : MayEnter triangle.labels root foot 1
first_may_enter = inl (omega (arith, ints))

third_may_enter : MayEnter triangle.labels root foot 3
third_may_enter = inl (omega (arith, ints))

-- column 3 enters, as it is no row of the root
third_enters : Enters triangle.labels root (1 ∷ 3 ∷ []) foot 3
third_enters =
    enters triangle root (1 ∷ 3 ∷ []) foot 3 (1, omega arith, refl) third_may_enter
    (λ m. inr third_is_earlier, (λ m. inl refl, tt))

first_does_not_enter : Enters triangle.labels root (1 ∷ 3 ∷ []) foot 1 → ⊥
first_does_not_enter x =
    let e = enters_is_one triangle root foot (1 ∷ 3 ∷ []) rows_are_distinct 3 1 third_enters x in omega arith

second_leaves : Leaves triangle.labels root (1 ∷ 3 ∷ []) foot 3 2
second_leaves =
    leaves triangle root (1 ∷ 3 ∷ []) foot 3 2 (0, omega arith, refl) (omega (arith, ints))
    (λ h. inr (refl, inr (refl, tt)), tt)

foot_parent : IsParent triangle.labels root (1 ∷ 3 ∷ []) foot root
foot_parent = record {
  s = 3;
  enters = third_enters;
  neighbour = record { column = (1, omega arith, refl); r = 2; leaves = second_leaves; exchange = refl };
}
