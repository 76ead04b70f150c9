-- The tree of cobases of the pyramid under the root {1, 2, 4}: of the four keys at the apex two are feasible, and one
-- of them shows it. A wrong definition does not check.
use Rattle.std.proofs.Common.{◌≡◌, inl, inr, ℕ, pos, negsuc, List, [], ◌∷◌, refl, subst, arith}
use Rattle.std.specs.Prelude.{◌<◌, ◌≤ℤ◌, None}
use Rattle.std.proofs.lemmas.Int.{ints}
use Rattle.std.specs.List.{AllByRecursion}
use Rattle.poly_num.specs.Vectors.{◌·◌}
use Rattle.poly_num.specs.Divisors.{gcd_in, gcd_of}
use Rattle.poly_num.proofs.PrimitiveLemmas.{primitive_from_gcd}
use Rattle.poly_model.specs.Dictionaries.{Table}
use Rattle.poly_model.specs.LexOrder.{IsPositive, IsNonnegative, IsEarlier, rows_in, order, list_of}
use Rattle.poly_model.specs.Tree.{IsFeasibleRoot, IsLexFeasible, Enters, Leaves, IsNeighbour}
use Rattle.poly_model.specs.Tree.{IsParent, ratio_gaps, ShowsPoint, IsShownAt}
use Rattle.linear_laws.specs.Distinct.{AreDistinct}
use Rattle.linear_laws.proofs.Members.{all_at}
use Rattle.dictionary_laws.proofs.KeyExchange.{ascending_distinct}
use Rattle.tree_laws.proofs.ListOrder.{none_before}
use Rattle.tree_laws.proofs.OrderLemmas.{is_row_outside, order_distinct}
use Rattle.tree_laws.proofs.AnyTable.{same_list}
use Rattle.tree_laws.proofs.KnownTables.{solved}
use Rattle.tree_laws.proofs.KnownTests.{is_lex_feasible, leaves, enters, shows_point}
use Rattle.tree_laws.proofs.KnownPyramid.{pyramid, home, apex, apex_too, apex_low, apex_lower}
use Rattle.tree_laws.proofs.KnownPyramid.{home_is_solved, apex_is_solved}
use Rattle.tree_laws.proofs.KnownPyramid.{apex_too_is_solved, apex_low_is_solved, apex_lower_is_solved}

abbrev root : List ℕ
root = 1 ∷ 2 ∷ 4 ∷ []

order_of_the_pyramid : order pyramid.labels root ≡ 3 ∷ 5 ∷ 1 ∷ 2 ∷ 4 ∷ []
order_of_the_pyramid = refl

rows_are_distinct : AreDistinct (rows_in pyramid.labels)
rows_are_distinct = ascending_distinct (rows_in pyramid.labels) (one, (two.0, (two.1, ((omega arith, tt), (tt, tt)))))
  where
    one : AllByRecursion (λ y. 1 < y) (2 ∷ 3 ∷ 4 ∷ 5 ∷ [])
    one = (omega arith, (omega arith, (omega arith, (omega arith, tt))))

    two : AllByRecursion (λ y. 2 < y) (3 ∷ 4 ∷ 5 ∷ []) × AllByRecursion (λ y. 3 < y) (4 ∷ 5 ∷ [])
    two = ((omega arith, (omega arith, (omega arith, tt))), (omega arith, (omega arith, tt)))

-- ---- feasible keys
home_is_feasible : IsFeasibleRoot pyramid root home
home_is_feasible = record {
  dictionary = solved pyramid root home home_is_solved;
  constants = all_at (λ i. pos 0 ≤ℤ home.constant i) (rows_in pyramid.labels) (
    omega (arith, ints),
    (
      omega (arith, ints),
      (omega (arith, ints), (omega (arith, ints), (omega (arith, ints), tt))),
    ),
  );
}

home_lists_are_positive : IsLexFeasible pyramid root root home
home_lists_are_positive =
    is_lex_feasible pyramid root root home (solved pyramid root home home_is_solved)
    (inl (omega (arith, ints)), (inl (omega (arith, ints)), tt))

-- two rows are 0 at the apex and outside the key: its list decides
list_of_row_three : list_of pyramid.labels root (2 ∷ 4 ∷ 5 ∷ []) apex 3 ≡ pos 0 ∷ pos 2 ∷ negsuc 1 ∷ []
list_of_row_three = refl

apex_is_feasible : IsLexFeasible pyramid root (2 ∷ 4 ∷ 5 ∷ []) apex
apex_is_feasible =
    is_lex_feasible pyramid root (2 ∷ 4 ∷ 5 ∷ []) apex (solved pyramid (2 ∷ 4 ∷ 5 ∷ []) apex apex_is_solved)
    (inl (omega (arith, ints)), (inr (refl, inl (omega (arith, ints))), tt))

apex_too_is_feasible : IsLexFeasible pyramid root (3 ∷ 4 ∷ 5 ∷ []) apex_too
apex_too_is_feasible =
    is_lex_feasible pyramid root (3 ∷ 4 ∷ 5 ∷ []) apex_too (solved pyramid (3 ∷ 4 ∷ 5 ∷ []) apex_too apex_too_is_solved)
    (inl (omega (arith, ints)), (inr (refl, inl (omega (arith, ints))), tt))

falls_first : IsPositive (pos 0 ∷ negsuc 1 ∷ pos 2 ∷ []) → ⊥
falls_first (inl h) = omega (arith, ints)
falls_first (inr (e, inl h)) = omega (arith, ints)
falls_first (inr (e, inr (f, h))) = cc

-- the lists of row 5 at {2, 3, 4}, and of row 4 at {2, 3, 5}, begin 0, -2, by each table of the key
apex_low_is_not_feasible : (u : Table) → IsLexFeasible pyramid root (2 ∷ 3 ∷ 4 ∷ []) u → ⊥
apex_low_is_not_feasible u h =
    falls_first
    (subst IsPositive
    (same_list pyramid root (2 ∷ 3 ∷ 4 ∷ []) u apex_low h.dictionary
    (solved pyramid (2 ∷ 3 ∷ 4 ∷ []) apex_low apex_low_is_solved) 5 (4, omega arith, refl))
    (h.lists 5 (is_row_outside pyramid (2 ∷ 3 ∷ 4 ∷ []) 5 (1, omega arith, refl))))

apex_lower_is_not_feasible : (u : Table) → IsLexFeasible pyramid root (2 ∷ 3 ∷ 5 ∷ []) u → ⊥
apex_lower_is_not_feasible u h =
    falls_first
    (subst IsPositive
    (same_list pyramid root (2 ∷ 3 ∷ 5 ∷ []) u apex_lower h.dictionary
    (solved pyramid (2 ∷ 3 ∷ 5 ∷ []) apex_lower apex_lower_is_solved) 4 (3, omega arith, refl))
    (h.lists 4 (is_row_outside pyramid (2 ∷ 3 ∷ 5 ∷ []) 4 (1, omega arith, refl))))

-- ---- the ratio test at the root, in the column of 1: rows 3 and 5 have the constant 2 and the entry -2, and 5 leaves
gaps_of_row_three : ratio_gaps pyramid.labels root root home 1 5 3 ≡ pos 0 ∷ pos 2 ∷ negsuc 1 ∷ []
gaps_of_row_three = refl

fifth_leaves : Leaves pyramid.labels root root home 1 5
fifth_leaves =
    leaves pyramid root root home 1 5 (1, omega arith, refl) (omega (arith, ints))
    (λ h. inr (refl, inl (omega (arith, ints))), (λ h. inr (refl, inr (refl, inr (refl, tt))), tt))

third_does_not_leave : Leaves pyramid.labels root root home 1 3 → ⊥
third_does_not_leave l =
    by (l.least 5 (is_row_outside pyramid root 5 (1, omega arith, refl)) (omega (arith, ints)))
  where
    by : IsNonnegative (pos 0 ∷ negsuc 1 ∷ pos 2 ∷ []) → ⊥
    by (inl h) = omega (arith, ints)
    by (inr (e, inl h)) = omega (arith, ints)
    by (inr (e, inr (f, h))) = cc

apex_is_neighbour : IsNeighbour pyramid.labels root root home 1 (2 ∷ 4 ∷ 5 ∷ [])
apex_is_neighbour = record { column = (0, omega arith, refl); r = 5; leaves = fifth_leaves; exchange = refl }

-- ---- parents: of {3, 4, 5} it is {2, 4, 5}, and of that the root
apex_enters : Enters pyramid.labels root (2 ∷ 4 ∷ 5 ∷ []) apex 5
apex_enters =
    enters pyramid root (2 ∷ 4 ∷ 5 ∷ []) apex 5 (2, omega arith, refl)
    (inr (refl, inr (refl, inl (omega (arith, ints))))) (
      λ m. inr (inr (inl (refl, (1, omega arith, refl)))),
      (λ m. inr (inr (inl (refl, (2, omega arith, refl)))), (λ m. inl refl, tt)),
    )

apex_leaves : Leaves pyramid.labels root (2 ∷ 4 ∷ 5 ∷ []) apex 5 1
apex_leaves =
    leaves pyramid root (2 ∷ 4 ∷ 5 ∷ []) apex 5 1 (0, omega arith, refl) (omega (arith, ints))
    (λ h. inr (refl, inr (refl, inr (refl, tt))), (λ h. absurd (omega (arith, ints)), tt))

apex_parent : IsParent pyramid.labels root (2 ∷ 4 ∷ 5 ∷ []) apex root
apex_parent = record {
  s = 5;
  enters = apex_enters;
  neighbour = record { column = (2, omega arith, refl); r = 1; leaves = apex_leaves; exchange = refl };
}

apex_too_enters : Enters pyramid.labels root (3 ∷ 4 ∷ 5 ∷ []) apex_too 3
apex_too_enters =
    enters pyramid root (3 ∷ 4 ∷ 5 ∷ []) apex_too 3 (0, omega arith, refl) (inr (refl, inl (omega (arith, ints)))) (
      λ m. inl refl,
      (λ m. inr (inl (refl, (3, omega arith, refl))), (λ m. inr (inl (refl, (0, omega arith, refl))), tt)),
    )

apex_too_leaves : Leaves pyramid.labels root (3 ∷ 4 ∷ 5 ∷ []) apex_too 3 2
apex_too_leaves =
    leaves pyramid root (3 ∷ 4 ∷ 5 ∷ []) apex_too 3 2 (1, omega arith, refl) (omega (arith, ints))
    (λ h. absurd (omega (arith, ints)), (λ h. inr (refl, inr (refl, inr (refl, tt))), tt))

apex_too_parent : IsParent pyramid.labels root (3 ∷ 4 ∷ 5 ∷ []) apex_too (2 ∷ 4 ∷ 5 ∷ [])
apex_too_parent = record {
  s = 3;
  enters = apex_too_enters;
  neighbour = record { column = (0, omega arith, refl); r = 2; leaves = apex_too_leaves; exchange = refl };
}

-- ---- the point test: row 3 is the earliest of all, and row 2 comes after 3 and 5
apex_shows_its_point : IsShownAt pyramid root (2 ∷ 4 ∷ 5 ∷ []) apex None (pos 1 ∷ pos 0 ∷ pos 0 ∷ pos 1 ∷ [])
unfolding gcd_in gcd_of
apex_shows_its_point = (
  shows_point pyramid root (2 ∷ 4 ∷ 5 ∷ []) apex (λ z. cc, (λ z. (earliest 2, (earliest 4, (earliest 5, tt))), tt)),
  record {
    primitive = primitive_from_gcd (pos 1 ∷ pos 0 ∷ pos 0 ∷ pos 1 ∷ []) refl;
    inside = record { width = refl; fixed = tt };
    finite = omega (arith, ints);
    nothing = all_at (λ k. pyramid.form k · (pos 1 ∷ pos 0 ∷ pos 0 ∷ pos 1 ∷ []) ≡ pos 0) (2 ∷ 4 ∷ 5 ∷ [])
        (refl, (refl, (refl, tt)));
  },
)
  where
    earliest : (k : ℕ) → IsEarlier pyramid.labels root k 3 → apex.entry 3 k ≡ pos 0
    earliest k h =
        absurd (none_before 3 (5 ∷ 1 ∷ 2 ∷ 4 ∷ []) k (order_distinct pyramid root rows_are_distinct).0 h)

apex_too_does_not : ShowsPoint pyramid.labels root (3 ∷ 4 ∷ 5 ∷ []) apex_too → ⊥
apex_too_does_not h =
    let o = is_row_outside pyramid (3 ∷ 4 ∷ 5 ∷ []) 2 (1, omega arith, refl) in
    let e = h 2 o refl 3 (0, omega arith, refl) (inl (refl, (2, omega arith, refl))) in cc
