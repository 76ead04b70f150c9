-- The quadrant x >= 0, y >= 0 under the root {1, 2}, its only cobasis: both columns show their ray. A wrong definition
-- does not check.
use Rattle.std.proofs.Common.{◌≡◌, ◌≢◌, inl, ℕ, ℤ, pos, ◌*ℤ◌, List, [], ◌∷◌, refl, ap, arith}
use Rattle.std.specs.Prelude.{◌≤ℤ◌, Some}
use Rattle.std.proofs.lemmas.Int.{ints}
use Rattle.poly_num.specs.Vectors.{Vector, ◌·◌, IsMultipleOf}
use Rattle.poly_num.specs.Divisors.{gcd_in, gcd_of}
use Rattle.poly_num.proofs.PrimitiveLemmas.{primitive_from_gcd}
use Rattle.poly_num.proofs.Ring.{mul_comm}
use Rattle.poly_model.specs.Spaces.{Space}
use Rattle.poly_model.specs.Cones.{at}
use Rattle.poly_model.specs.Dictionaries.{Table}
use Rattle.poly_model.specs.LexOrder.{rows_in}
use Rattle.poly_model.specs.Tree.{IsFeasibleRoot}
use Rattle.poly_model.specs.Tree.{ShowsRay, IsAlongColumn, IsShownAt, IsExtremeIn}
use Rattle.linear_laws.proofs.Members.{all_at}
use Rattle.linear_laws.proofs.Entries.{by_three}
use Rattle.linear_laws.proofs.Signs.{one_is_not_zero}
use Rattle.tree_laws.proofs.KnownTables.{space_of, has_enough_labels, table_of, IsSolved, solved, one_is_least}
use Rattle.tree_laws.proofs.KnownTests.{shows_ray}

-- rows 1: x >= 0, 2: y >= 0
abbrev rows : List Vector
rows =
    (pos 0 ∷ pos 1 ∷ pos 0 ∷ [])
    ∷ (pos 0 ∷ pos 0 ∷ pos 1 ∷ [])
    ∷ []

abbrev quadrant : Space
quadrant = space_of 3 rows

abbrev root : List ℕ
root = 1 ∷ 2 ∷ []

-- ---- the dictionary of the root
-- at (0, 0)
abbrev home : Table
home =
    table_of (pos 1) (1 ∷ 2 ∷ []) quadrant.labels (
    (pos 0 ∷ pos 1 ∷ pos 0 ∷ [])
    ∷ (pos 0 ∷ pos 0 ∷ pos 1 ∷ [])
    ∷ (pos 0 ∷ pos 1 ∷ pos 0 ∷ [])
    ∷ (pos 0 ∷ pos 0 ∷ pos 1 ∷ [])
    ∷ []
    )

-- the direction of the axis of x
abbrev axis : Vector
axis = pos 0 ∷ pos 1 ∷ pos 0 ∷ []

home_is_solved : IsSolved quadrant (1 ∷ 2 ∷ []) home
home_is_solved = record {
  labels = has_enough_labels 3 rows (pos 0 ∷ pos 0 ∷ []) refl;
  ascending = ((omega arith, tt), (tt, tt));
  rows = ((0, omega arith, refl), ((1, omega arith, refl), tt));
  directions = axis ∷ (pos 0 ∷ pos 0 ∷ pos 1 ∷ []) ∷ [];
  independent = (((refl, tt, refl), tt, λ e. cc), (((refl, tt, refl), (refl, tt), λ e. cc), tt));
  lines = (refl, (refl, (refl, (refl, tt))));
  least = one_is_least quadrant (1 ∷ 2 ∷ []) home refl;
}

home_is_feasible : IsFeasibleRoot quadrant root home
home_is_feasible = record {
  dictionary = solved quadrant root home home_is_solved;
  constants = all_at (λ i. pos 0 ≤ℤ home.constant i) (rows_in quadrant.labels)
      (omega (arith, ints), (omega (arith, ints), tt));
}

-- ---- rays
first_column : ShowsRay quadrant.labels root root home 1
first_column =
    shows_ray quadrant root root home 1 (0, omega arith, refl) tt
    (λ n. absurd (n refl), (λ n. inl (omega (arith, ints)), tt))

second_column : ShowsRay quadrant.labels root root home 2
second_column =
    shows_ray quadrant root root home 2 (1, omega arith, refl) tt
    (λ n. inl (omega (arith, ints)), (λ n. absurd (n refl), tt))

-- the axis of x is shown in the first column, and not in the second
axis_is_shown : IsShownAt quadrant root root home (Some 1) axis
unfolding gcd_in gcd_of
axis_is_shown = (
  first_column,
  record {
    primitive = primitive_from_gcd axis refl;
    inside = record { width = refl; fixed = tt };
    level = refl;
    here = omega (arith, ints);
    nothing = all_at (λ k. k ≢ 1 → quadrant.form k · axis ≡ pos 0) root
        (λ n. absurd (n refl), (λ n. refl, tt));
  },
)

axis_is_not_along_the_other : IsAlongColumn quadrant root 2 axis → ⊥
axis_is_not_along_the_other h = let p = h.here in omega (arith, ints)

-- ---- extreme vectors
axis_is_extreme : IsExtremeIn quadrant axis
unfolding gcd_in gcd_of
axis_is_extreme = record {
  primitive = primitive_from_gcd axis refl;
  inside = record { width = refl; fixed = tt };
  finite = omega (arith, ints);
  rows = all_at (λ i. pos 0 ≤ℤ (quadrant.form i · axis)) (rows_in quadrant.labels)
      (omega (arith, ints), (omega (arith, ints), tt));
  alone = λ z i e f.
      by_three
      (λ z. quadrant.infinity · z ≡ pos 0 → quadrant.form 2 · z ≡ pos 0 → IsMultipleOf axis z)
      by z i.width (e refl) (f 2 (1, omega arith, refl) refl);
}
  where
    first : (a b c : ℤ) → quadrant.infinity · (a ∷ b ∷ c ∷ []) ≡ pos 0 → pos 1 *ℤ a ≡ b *ℤ pos 0
    first a b c e = omega (arith, ints)

    third : (a b c : ℤ) → quadrant.form 2 · (a ∷ b ∷ c ∷ []) ≡ pos 0 → pos 1 *ℤ c ≡ b *ℤ pos 0
    third a b c e = omega (arith, ints)

    by : (a b c : ℤ) → quadrant.infinity · (a ∷ b ∷ c ∷ []) ≡ pos 0 → quadrant.form 2 · (a ∷ b ∷ c ∷ []) ≡ pos 0 →
        IsMultipleOf axis (a ∷ b ∷ c ∷ [])
    by a b c e f =
        let p = first a b c e in let q = mul_comm (pos 1) b in let r = third a b c f in (pos 1, b, one_is_not_zero, cc)

-- the diagonal lies inside: nothing is 0 there but infinity, and the axis is no multiple of it
diagonal_is_not_extreme : IsExtremeIn quadrant (pos 0 ∷ pos 1 ∷ pos 1 ∷ []) → ⊥
diagonal_is_not_extreme x =
    by (x.alone axis (record { width = refl; fixed = tt }) (λ e. refl)
    (all_at (λ i. quadrant.form i · (pos 0 ∷ pos 1 ∷ pos 1 ∷ []) ≡ pos 0 →
    quadrant.form i · axis ≡ pos 0) (rows_in quadrant.labels) (λ e. cc, (λ e. cc, tt))))
  where
    apart : (p q : ℤ) → p *ℤ pos 1 ≡ q *ℤ pos 1 → p *ℤ pos 0 ≡ q *ℤ pos 1 → p ≡ pos 0
    apart p q e f = omega (arith, ints)

    by : IsMultipleOf (pos 0 ∷ pos 1 ∷ pos 1 ∷ []) axis → ⊥
    by (p, q, n, e) = n (apart p q (ap (at 1) e) (ap (at 2) e))
