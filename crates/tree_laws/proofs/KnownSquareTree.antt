-- The tree of cobases of the square under the root {1, 2}: lists, parents and depths, known from a drawing. A wrong
-- definition does not check.
use Rattle.std.proofs.Common.{◌≡◌, inl, inr, ℕ, pos, List, [], ◌∷◌, refl, subst, arith}
use Rattle.std.specs.Prelude.{◌≤ℤ◌}
use Rattle.std.proofs.lemmas.Int.{ints}
use Rattle.poly_model.specs.LexOrder.{rows_in, order, list_of}
use Rattle.poly_model.specs.Tree.{IsRowDictionary, IsFeasibleRoot, IsLexFeasible, MayEnter, Enters, Leaves}
use Rattle.poly_model.specs.Tree.{IsNeighbour, IsParent, IsAbove, IsUnder}
use Rattle.linear_laws.specs.Distinct.{AreDistinct}
use Rattle.linear_laws.proofs.Members.{all_at}
use Rattle.dictionary_laws.proofs.KeyExchange.{ascending_distinct}
use Rattle.tree_laws.proofs.Entering.{enters_is_one}
use Rattle.tree_laws.proofs.KnownTables.{solved}
use Rattle.tree_laws.proofs.KnownTests.{is_lex_feasible, leaves, enters}
use Rattle.tree_laws.proofs.Neighbours.{one_neighbour}
use Rattle.tree_laws.proofs.AnyTable.{parent_too}
use Rattle.tree_laws.proofs.KnownSquare.{square, home, opposite, above_home, beside_home}
use Rattle.tree_laws.proofs.KnownSquare.{home_is_solved, opposite_is_solved, above_home_is_solved}
use Rattle.tree_laws.proofs.KnownSquare.{beside_home_is_solved}

abbrev root : List ℕ
root = 1 ∷ 2 ∷ []

-- ---- rows and lists
rows_ascend : rows_in square.labels ≡ 1 ∷ 2 ∷ 3 ∷ 4 ∷ []
rows_ascend = refl

rows_are_distinct : AreDistinct (rows_in square.labels)
rows_are_distinct =
    ascending_distinct (rows_in square.labels)
    ((omega arith, (omega arith, (omega arith, tt))), ((omega arith, (omega arith, tt)), ((omega arith, tt), (tt, tt))))

root_is_last : order square.labels root ≡ 3 ∷ 4 ∷ 1 ∷ 2 ∷ []
root_is_last = refl

-- row 1 is moved by row 3, which is in the key, and row 3 by itself where it is not
row_of_the_root : list_of square.labels root (3 ∷ 4 ∷ []) opposite 1 ≡ pos 1 ∷ pos 1 ∷ pos 0 ∷ []
row_of_the_root = refl

row_outside_the_root : list_of square.labels root (1 ∷ 4 ∷ []) above_home 3 ≡ pos 1 ∷ pos 1 ∷ pos 0 ∷ []
row_outside_the_root = refl

-- ---- all four are feasible
home_is_feasible : IsFeasibleRoot square root home
home_is_feasible = record {
  dictionary = solved square root home home_is_solved;
  constants = all_at (λ i. pos 0 ≤ℤ home.constant i) (rows_in square.labels)
      (omega (arith, ints), (omega (arith, ints), (omega (arith, ints), (omega (arith, ints), tt))));
}

home_lists_are_positive : IsLexFeasible square root root home
home_lists_are_positive =
    is_lex_feasible square root root home (solved square root home home_is_solved)
    (inl (omega (arith, ints)), (inl (omega (arith, ints)), tt))

opposite_is_feasible : IsLexFeasible square root (3 ∷ 4 ∷ []) opposite
opposite_is_feasible =
    is_lex_feasible square root (3 ∷ 4 ∷ []) opposite (solved square (3 ∷ 4 ∷ []) opposite opposite_is_solved)
    (inl (omega (arith, ints)), (inl (omega (arith, ints)), tt))

above_home_is_feasible : IsLexFeasible square root (1 ∷ 4 ∷ []) above_home
above_home_is_feasible =
    is_lex_feasible square root (1 ∷ 4 ∷ []) above_home (solved square (1 ∷ 4 ∷ []) above_home above_home_is_solved)
    (inl (omega (arith, ints)), (inl (omega (arith, ints)), tt))

beside_home_is_feasible : IsLexFeasible square root (2 ∷ 3 ∷ []) beside_home
beside_home_is_feasible =
    is_lex_feasible square root (2 ∷ 3 ∷ []) beside_home (solved square (2 ∷ 3 ∷ []) beside_home beside_home_is_solved)
    (inl (omega (arith, ints)), (inl (omega (arith, ints)), tt))

-- ---- parents
-- in {3, 4} both columns may enter, and 3 is the least: row 1 takes its place
opposite_enters : Enters square.labels root (3 ∷ 4 ∷ []) opposite 3
opposite_enters =
    enters square root (3 ∷ 4 ∷ []) opposite 3 (0, omega arith, refl) (inr (refl, inl (omega (arith, ints))))
    (λ m. inl refl, (λ m. inr (inl (refl, (0, omega arith, refl))), tt))

opposite_leaves : Leaves square.labels root (3 ∷ 4 ∷ []) opposite 3 1
opposite_leaves =
    leaves square root (3 ∷ 4 ∷ []) opposite 3 1 (0, omega arith, refl) (omega (arith, ints))
    (λ h. inr (refl, inr (refl, inr (refl, tt))), (λ h. absurd (omega (arith, ints)), tt))

opposite_neighbour : IsNeighbour square.labels root (3 ∷ 4 ∷ []) opposite 3 (1 ∷ 4 ∷ [])
opposite_neighbour = record { column = (0, omega arith, refl); r = 1; leaves = opposite_leaves; exchange = refl }

opposite_parent : IsParent square.labels root (3 ∷ 4 ∷ []) opposite (1 ∷ 4 ∷ [])
opposite_parent = record { s = 3; enters = opposite_enters; neighbour = opposite_neighbour }

second_may_enter_too : MayEnter square.labels root opposite 4
second_may_enter_too = inl (omega (arith, ints))

second_does_not_enter : Enters square.labels root (3 ∷ 4 ∷ []) opposite 4 → ⊥
second_does_not_enter x =
    let e = enters_is_one square root opposite (3 ∷ 4 ∷ []) rows_are_distinct 3 4 opposite_enters x in omega arith

-- in {1, 4} column 4 enters, and row 2 takes its place; in {2, 3} it is column 3 and row 1
above_home_enters : Enters square.labels root (1 ∷ 4 ∷ []) above_home 4
above_home_enters =
    enters square root (1 ∷ 4 ∷ []) above_home 4 (1, omega arith, refl) (inl (omega (arith, ints)))
    (λ m. inr (inr (inl (refl, (0, omega arith, refl)))), (λ m. inl refl, tt))

above_home_leaves : Leaves square.labels root (1 ∷ 4 ∷ []) above_home 4 2
above_home_leaves =
    leaves square root (1 ∷ 4 ∷ []) above_home 4 2 (0, omega arith, refl) (omega (arith, ints))
    (λ h. inr (refl, inr (refl, inr (refl, tt))), (λ h. absurd (omega (arith, ints)), tt))

above_home_parent : IsParent square.labels root (1 ∷ 4 ∷ []) above_home root
above_home_parent = record {
  s = 4;
  enters = above_home_enters;
  neighbour = record { column = (1, omega arith, refl); r = 2; leaves = above_home_leaves; exchange = refl };
}

beside_home_enters : Enters square.labels root (2 ∷ 3 ∷ []) beside_home 3
beside_home_enters =
    enters square root (2 ∷ 3 ∷ []) beside_home 3 (1, omega arith, refl) (inr (refl, inl (omega (arith, ints))))
    (λ m. inr (inl (refl, (2, omega arith, refl))), (λ m. inl refl, tt))

beside_home_leaves : Leaves square.labels root (2 ∷ 3 ∷ []) beside_home 3 1
beside_home_leaves =
    leaves square root (2 ∷ 3 ∷ []) beside_home 3 1 (0, omega arith, refl) (omega (arith, ints))
    (λ h. inr (refl, inr (refl, inr (refl, tt))), (λ h. absurd (omega (arith, ints)), tt))

beside_home_parent : IsParent square.labels root (2 ∷ 3 ∷ []) beside_home root
beside_home_parent = record {
  s = 3;
  enters = beside_home_enters;
  neighbour = record { column = (1, omega arith, refl); r = 1; leaves = beside_home_leaves; exchange = refl };
}

-- the root has no parent
no_column_enters : (s : ℕ) → Enters square.labels root root home s → ⊥
no_column_enters s x = all_at (λ k. MayEnter square.labels root home k → ⊥) root (first, (second, tt)) s x.column x.may
  where
    first : MayEnter square.labels root home 1 → ⊥
    first (inl h) = omega (arith, ints)
    first (inr (e, inl h)) = omega (arith, ints)
    first (inr (e, inr (f, h))) = h

    second : MayEnter square.labels root home 2 → ⊥
    second (inl h) = omega (arith, ints)
    second (inr (e, h)) = omega (arith, ints)

-- ---- depths
beside_is_under_home : IsUnder square root (2 ∷ 3 ∷ []) root
beside_is_under_home =
    let d = (solved square (2 ∷ 3 ∷ []) beside_home beside_home_is_solved).dictionary in
    (1, (beside_home, d, root, beside_home_parent, refl))

opposite_is_two_below : IsAbove square root 2 (3 ∷ 4 ∷ []) root
opposite_is_two_below = (
  opposite,
  (solved square (3 ∷ 4 ∷ []) opposite opposite_is_solved).dictionary,
  1 ∷ 4 ∷ [],
  opposite_parent,
  (above_home, (solved square (1 ∷ 4 ∷ []) above_home above_home_is_solved).dictionary, root, above_home_parent, refl),
)

-- ---- and no other
-- another table, or another row or column, gives no other parent
only_parent : (parent : List ℕ) → IsParent square.labels root (3 ∷ 4 ∷ []) opposite parent → parent ≡ 1 ∷ 4 ∷ []
only_parent parent p =
    let e = enters_is_one square root opposite (3 ∷ 4 ∷ []) rows_are_distinct p.s 3 p.enters opposite_enters in
    one_neighbour square root (3 ∷ 4 ∷ []) opposite home (solved square root home home_is_solved)
    (solved square (3 ∷ 4 ∷ []) opposite opposite_is_solved) 3 parent (1 ∷ 4 ∷ [])
    (subst (λ s. IsNeighbour square.labels root (3 ∷ 4 ∷ []) opposite s parent) e p.neighbour)
    opposite_neighbour

opposite_is_not_one_below : IsAbove square root 1 (3 ∷ 4 ∷ []) root → ⊥
opposite_is_not_one_below (t, d, parent, p, e) =
    let o = solved square (3 ∷ 4 ∷ []) opposite opposite_is_solved in
    let here : IsRowDictionary square (3 ∷ 4 ∷ []) t =
    record { points = o.points; ascending = o.ascending; rows = o.rows; dictionary = d } in
    let same = only_parent parent (parent_too square root (3 ∷ 4 ∷ []) t opposite here o parent p) in cc

second_does_not_leave : Leaves square.labels root (3 ∷ 4 ∷ []) opposite 3 2 → ⊥
second_does_not_leave l = let n = l.negative in omega (arith, ints)
