-- The root that phase one gives for the point x = 1 from the start cobasis {1}, whose row is x >= 0, known from a
-- drawing: t ties with another row, which leaves, and t comes back in the place of the least column by the order
-- relative to the first root, which is not that of the least number. A wrong definition does not check.
use Rattle.std.proofs.Common.{◌≡◌, ◌≢◌, ◌⊎◌, inl, inr, ℕ, pos, negsuc, List, [], ◌∷◌, refl, arith}
use Rattle.std.specs.Prelude.{◌≤ℤ◌, ◌<ℤ◌}
use Rattle.std.proofs.lemmas.Int.{ints}
use Rattle.poly_num.specs.Vectors.{Vector}
use Rattle.poly_model.specs.Spaces.{Space}
use Rattle.poly_model.specs.Dictionaries.{Table}
use Rattle.poly_model.specs.LexOrder.{IsNonnegative, order, IsEarlier}
use Rattle.poly_model.specs.Tree.{Leaves}
use Rattle.poly_model.specs.Lowering.{IsLoweringStep, IsLowest}
use Rattle.poly_model.specs.PhaseOne.{IsFirstWorst, IsLastColumn, IsLastExchange, GivesByPhaseOne}
use Rattle.linear_laws.proofs.Members.{all_at}
use Rattle.tree_laws.proofs.KnownTables.{table_of, IsSolved, solved, two_is_least}
use Rattle.tree_laws.proofs.KnownTests.{leaves}
use Rattle.search_laws.proofs.GivenRoots.{given_one}
use Rattle.search_laws.proofs.KnownPhaseOne.{table_with_t, space_with, start, first_with, root, first_has_enough_labels, start_is_solved, root_is_solved, no_row_zero, rows_are_distinct, second_is_worst, lowers_first}

-- row 3: 1 - x >= 0
abbrev third : Vector
third = pos 1 ∷ negsuc 0 ∷ []

abbrev point : Space
point = space_with third

abbrev first : Space
first = first_with third

-- ---- the dictionaries
-- at 0
abbrev wrong : Table
wrong =
    table_of (pos 1) start point.labels (
    (pos 0 ∷ pos 1 ∷ [])
    ∷ (negsuc 0 ∷ pos 1 ∷ [])
    ∷ (pos 1 ∷ negsuc 0 ∷ [])
    ∷ (pos 0 ∷ pos 1 ∷ [])
    ∷ []
    )

-- with t, at 0
abbrev before : Table
before =
    table_with_t (pos 1) root first.labels (pos 1 ∷ pos 0 ∷ pos 0 ∷ pos 2 ∷ pos 0 ∷ []) (
    (negsuc 0 ∷ pos 1 ∷ [])
    ∷ (pos 1 ∷ pos 0 ∷ [])
    ∷ (pos 0 ∷ pos 1 ∷ [])
    ∷ (negsuc 1 ∷ pos 1 ∷ [])
    ∷ (pos 1 ∷ pos 0 ∷ [])
    ∷ []
    )

-- with t, at 1: it is half the sum of two rows
abbrev last : Table
last =
    table_with_t (pos 2) (2 ∷ 3 ∷ []) first.labels (pos 0 ∷ pos 2 ∷ pos 0 ∷ pos 0 ∷ pos 2 ∷ []) (
    (pos 1 ∷ pos 1 ∷ [])
    ∷ (pos 1 ∷ negsuc 0 ∷ [])
    ∷ (pos 2 ∷ pos 0 ∷ [])
    ∷ (pos 0 ∷ pos 2 ∷ [])
    ∷ (pos 1 ∷ negsuc 0 ∷ [])
    ∷ []
    )

wrong_is_solved : IsSolved point start wrong
wrong_is_solved = start_is_solved third wrong refl (refl, (refl, (refl, (refl, tt))))

before_is_solved : IsSolved first root before
before_is_solved = root_is_solved third before refl (refl, (refl, (refl, (refl, (refl, tt)))))

last_is_solved : IsSolved first (2 ∷ 3 ∷ []) last
last_is_solved = record {
  labels = first_has_enough_labels third;
  ascending = ((omega arith, tt), (tt, tt));
  rows = ((2, omega arith, refl), ((3, omega arith, refl), tt));
  directions = (pos 0 ∷ pos 0 ∷ pos 1 ∷ []) ∷ (pos 1 ∷ pos 0 ∷ negsuc 0 ∷ []) ∷ [];
  independent = (((refl, tt, refl), tt, λ e. cc), (((refl, tt, refl), (refl, tt), λ e. cc), tt));
  lines = (refl, (refl, (refl, (refl, (refl, tt)))));
  least = two_is_least first (2 ∷ 3 ∷ []) last refl 0 (0, omega arith, refl) (pos 1 ∷ pos 0 ∷ pos 1 ∷ [])
      (record { width = refl; fixed = tt }) refl refl (pos 1 ∷ pos 0 ∷ []) refl;
}

-- ---- row 2 takes the place of t
worst : IsFirstWorst point start wrong 2
worst = second_is_worst third wrong (omega (arith, ints)) (omega (arith, ints))

-- ---- t is lowered in the column of row 1: at the same value of it t and row 3 are 0, and row 3 leaves
row_leaves : Leaves first.labels root root before 1 3
row_leaves =
    leaves first root root before 1 3 (1, omega arith, refl) (omega (arith, ints))
    (λ h. inr (refl, inl (omega (arith, ints))), (λ h. inr (refl, inr (refl, inr (refl, tt))), tt))

t_does_not_leave : Leaves first.labels root root before 1 0 → ⊥
t_does_not_leave l = by (l.least 3 row_leaves.row row_leaves.negative)
  where
    by : (pos 0 <ℤ pos 0)
        ⊎ ((pos 0 ≡ pos 0) × ((pos 0 <ℤ negsuc 1) ⊎ ((negsuc 1 ≡ pos 0) × IsNonnegative (pos 1 ∷ [])))) → ⊥
    by (inl h) = omega (arith, ints)
    by (inr (e, inl h)) = omega (arith, ints)
    by (inr (e, inr (f, h))) = cc

step : IsLoweringStep first.labels root 0 root before (2 ∷ 3 ∷ [])
step = lowers_first third before 3 (omega (arith, ints)) (omega (arith, ints)) row_leaves

lowest : IsLowest (2 ∷ 3 ∷ []) last 0
lowest = all_at (λ k. pos 0 ≤ℤ last.entry 0 k) (2 ∷ 3 ∷ []) (omega (arith, ints), (omega (arith, ints), tt))

-- ---- t comes back in the place of row 3, which is outside the first root
rows_in_order : order first.labels root ≡ 0 ∷ 3 ∷ 1 ∷ 2 ∷ []
rows_in_order = refl

least_column : IsLastColumn first.labels root (2 ∷ 3 ∷ []) last 3
least_column = record {
  column = (1, omega arith, refl);
  nonzero = λ e. cc;
  least = all_at (λ k. last.entry 0 k ≢ pos 0 → (k ≡ 3) ⊎ IsEarlier first.labels root 3 k) (2 ∷ 3 ∷ [])
      (λ n. inr (inr (inl (refl, (1, omega arith, refl)))), (λ n. inl refl, tt));
}

last_exchange : IsLastExchange first.labels root (2 ∷ 3 ∷ []) last (0 ∷ 2 ∷ [])
last_exchange = record {
  outside = λ c. all_at (λ k. k ≡ 0 → ⊥) (2 ∷ 3 ∷ []) (λ e. omega arith, (λ e. omega arith, tt)) 0 c refl;
  constant = refl;
  s = 3;
  column = least_column;
  exchange = refl;
}

-- ---- the root is {2}
root_is_given : GivesByPhaseOne point start (2 ∷ [])
root_is_given = record {
  home = wrong;
  dictionary = solved point start wrong wrong_is_solved;
  root_is = inr (record {
    r = 2;
    worst = worst;
    steps = 1;
    end = 2 ∷ 3 ∷ [];
    descent = (before, (solved first root before before_is_solved).dictionary, 2 ∷ 3 ∷ [], step, refl);
    table = last;
    dictionary = (solved first (2 ∷ 3 ∷ []) last last_is_solved).dictionary;
    lowest = lowest;
    last = inr last_exchange;
  });
}

-- and no other
only_root : (other : List ℕ) → GivesByPhaseOne point start other → 2 ∷ [] ≡ other
only_root other g = given_one point start (no_row_zero third) (rows_are_distinct third) (2 ∷ []) other root_is_given g
