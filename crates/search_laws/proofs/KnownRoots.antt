-- The root that phase one gives on the half line x >= 1, with the row x - 1 >= 0 twice, from the start cobasis {1},
-- known from a drawing: the first of the two takes the place of t. A wrong definition does not check.
use Rattle.std.proofs.Common.{◌≡◌, inl, inr, ℕ, pos, negsuc, List, [], ◌∷◌, refl, arith}
use Rattle.std.specs.Prelude.{◌≤ℤ◌}
use Rattle.std.proofs.lemmas.Int.{ints}
use Rattle.poly_num.specs.Vectors.{Vector}
use Rattle.poly_model.specs.Spaces.{Space}
use Rattle.poly_model.specs.Dictionaries.{Table}
use Rattle.poly_model.specs.LexOrder.{outside}
use Rattle.poly_model.specs.Tree.{Leaves}
use Rattle.poly_model.specs.Lowering.{IsLoweringStep, IsLowest}
use Rattle.poly_model.specs.PhaseOne.{IsFirstWorst, GivesByPhaseOne}
use Rattle.linear_laws.proofs.Members.{all_at}
use Rattle.tree_laws.proofs.KnownTables.{table_of, IsSolved, solved, one_is_least}
use Rattle.tree_laws.proofs.KnownTests.{leaves}
use Rattle.search_laws.proofs.GivenRoots.{given_one}
use Rattle.search_laws.proofs.KnownPhaseOne.{table_with_t, space_with, start, first_with, root, first_has_enough_labels, start_is_solved, root_is_solved, no_row_zero, rows_are_distinct, second_is_worst, lowers_first}

-- row 3: x - 1 >= 0, as row 2
abbrev third : Vector
third = negsuc 0 ∷ pos 1 ∷ []

abbrev half_line : Space
half_line = space_with third

abbrev first : Space
first = first_with third

-- ---- the dictionaries
-- at 0
abbrev wrong : Table
wrong =
    table_of (pos 1) start half_line.labels (
    (pos 0 ∷ pos 1 ∷ [])
    ∷ (negsuc 0 ∷ pos 1 ∷ [])
    ∷ (negsuc 0 ∷ pos 1 ∷ [])
    ∷ (pos 0 ∷ pos 1 ∷ [])
    ∷ []
    )

-- with t, at 0
abbrev before : Table
before =
    table_with_t (pos 1) root first.labels (pos 1 ∷ pos 0 ∷ pos 0 ∷ pos 0 ∷ pos 0 ∷ []) (
    (negsuc 0 ∷ pos 1 ∷ [])
    ∷ (pos 1 ∷ pos 0 ∷ [])
    ∷ (pos 0 ∷ pos 1 ∷ [])
    ∷ (pos 0 ∷ pos 1 ∷ [])
    ∷ (pos 1 ∷ pos 0 ∷ [])
    ∷ []
    )

-- with t, at 1
abbrev last : Table
last =
    table_with_t (pos 1) (0 ∷ 2 ∷ []) first.labels (pos 0 ∷ pos 1 ∷ pos 0 ∷ pos 0 ∷ pos 1 ∷ []) (
    (pos 1 ∷ pos 0 ∷ [])
    ∷ (negsuc 0 ∷ pos 1 ∷ [])
    ∷ (pos 0 ∷ pos 1 ∷ [])
    ∷ (pos 0 ∷ pos 1 ∷ [])
    ∷ (negsuc 0 ∷ pos 1 ∷ [])
    ∷ []
    )

wrong_is_solved : IsSolved half_line start wrong
wrong_is_solved = start_is_solved third wrong refl (refl, (refl, (refl, (refl, tt))))

before_is_solved : IsSolved first root before
before_is_solved = root_is_solved third before refl (refl, (refl, (refl, (refl, (refl, tt)))))

last_is_solved : IsSolved first (0 ∷ 2 ∷ []) last
last_is_solved = record {
  labels = first_has_enough_labels third;
  ascending = ((omega arith, tt), (tt, tt));
  rows = ((0, omega arith, refl), ((2, omega arith, refl), tt));
  directions = (pos 1 ∷ pos 0 ∷ pos 0 ∷ []) ∷ (pos 0 ∷ pos 0 ∷ pos 1 ∷ []) ∷ [];
  independent = (((refl, tt, refl), tt, λ e. cc), (((refl, tt, refl), (refl, tt), λ e. cc), tt));
  lines = (refl, (refl, (refl, (refl, (refl, tt)))));
  least = one_is_least first (0 ∷ 2 ∷ []) last refl;
}

-- ---- row 2 takes the place of t
rows_outside_start : outside half_line.labels start ≡ 2 ∷ 3 ∷ []
rows_outside_start = refl

worst : IsFirstWorst half_line start wrong 2
worst = second_is_worst third wrong (omega (arith, ints)) (omega (arith, ints))

second_is_not_first : IsFirstWorst half_line start wrong 3 → ⊥
second_is_not_first w = let l = w.first 2 worst.worst in omega (arith, l)

-- ---- t is lowered in the column of row 1, and takes its place
t_leaves : Leaves first.labels root root before 1 0
t_leaves =
    leaves first root root before 1 0 (0, omega arith, refl) (omega (arith, ints))
    (λ h. inr (refl, inr (refl, inr (refl, tt))), (λ h. absurd (omega (arith, ints)), tt))

step : IsLoweringStep first.labels root 0 root before (0 ∷ 2 ∷ [])
step = lowers_first third before 0 (omega (arith, ints)) (omega (arith, ints)) t_leaves

lowest : IsLowest (0 ∷ 2 ∷ []) last 0
lowest = all_at (λ k. pos 0 ≤ℤ last.entry 0 k) (0 ∷ 2 ∷ []) (omega (arith, ints), (omega (arith, ints), tt))

-- ---- the root is {2}
root_is_given : GivesByPhaseOne half_line start (2 ∷ [])
root_is_given = record {
  home = wrong;
  dictionary = solved half_line start wrong wrong_is_solved;
  root_is = inr (record {
    r = 2;
    worst = worst;
    steps = 1;
    end = 0 ∷ 2 ∷ [];
    descent = (before, (solved first root before before_is_solved).dictionary, 0 ∷ 2 ∷ [], step, refl);
    table = last;
    dictionary = (solved first (0 ∷ 2 ∷ []) last last_is_solved).dictionary;
    lowest = lowest;
    last = inl refl;
  });
}

-- and no other
only_root : (other : List ℕ) → GivesByPhaseOne half_line start other → 2 ∷ [] ≡ other
only_root other g =
    given_one half_line start (no_row_zero third) (rows_are_distinct third) (2 ∷ []) other root_is_given g
