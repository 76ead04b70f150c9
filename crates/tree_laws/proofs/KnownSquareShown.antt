-- What is shown at the square under the root {1, 2}, and its extreme vectors. A wrong definition does not check.
use Rattle.std.proofs.Common.{◌≡◌, ℕ, ℤ, pos, negsuc, ◌*ℤ◌, List, [], ◌∷◌, refl, ap, arith}
use Rattle.std.specs.Prelude.{◌≤ℤ◌, None}
use Rattle.std.proofs.lemmas.Int.{ints}
use Rattle.poly_num.specs.Vectors.{Vector, ◌·◌, IsMultipleOf}
use Rattle.poly_num.specs.Divisors.{gcd_in, gcd_of}
use Rattle.poly_num.proofs.PrimitiveLemmas.{primitive_from_gcd, gcd_from_primitive}
use Rattle.poly_num.proofs.Ring.{mul_comm}
use Rattle.poly_model.specs.Cones.{at}
use Rattle.poly_model.specs.LexOrder.{rows_in}
use Rattle.poly_model.specs.Tree.{ShowsRay, IsAtPoint, IsShownAt, IsExtremeIn}
use Rattle.linear_laws.proofs.Members.{all_at}
use Rattle.linear_laws.proofs.Entries.{by_three}
use Rattle.linear_laws.proofs.Signs.{one_is_not_zero}
use Rattle.tree_laws.proofs.OrderLemmas.{is_row_outside}
use Rattle.tree_laws.proofs.KnownTests.{shows_point}
use Rattle.tree_laws.proofs.KnownSquare.{square, home, opposite}

abbrev root : List ℕ
root = 1 ∷ 2 ∷ []

abbrev corner : Vector
corner = pos 1 ∷ pos 0 ∷ pos 0 ∷ []

abbrev far_corner : Vector
far_corner = pos 1 ∷ pos 1 ∷ pos 1 ∷ []

-- ---- what is shown
-- the root shows its corner, and no ray: row 3 ends the way along the first column
home_shows_the_corner : IsShownAt square root root home None corner
unfolding gcd_in gcd_of
home_shows_the_corner = (
  shows_point square root root home (λ z. cc, (λ z. cc, tt)),
  record {
    primitive = primitive_from_gcd corner refl;
    inside = record { width = refl; fixed = tt };
    finite = omega (arith, ints);
    nothing = all_at (λ k. square.form k · corner ≡ pos 0) root (refl, (refl, tt));
  },
)

home_shows_no_ray : ShowsRay square.labels root root home 1 → ⊥
home_shows_no_ray h = let n = h.none 3 (is_row_outside square root 3 (0, omega arith, refl)) in omega (arith, ints)

opposite_shows_the_far_corner : IsShownAt square root (3 ∷ 4 ∷ []) opposite None far_corner
unfolding gcd_in gcd_of
opposite_shows_the_far_corner = (
  shows_point square root (3 ∷ 4 ∷ []) opposite (λ z. cc, (λ z. cc, tt)),
  record {
    primitive = primitive_from_gcd far_corner refl;
    inside = record { width = refl; fixed = tt };
    finite = omega (arith, ints);
    nothing = all_at (λ k. square.form k · far_corner ≡ pos 0) (3 ∷ 4 ∷ []) (refl, (refl, tt));
  },
)

-- another corner is not at the root, nor is twice the vector, nor its negative
far_corner_is_not_here : IsAtPoint square root far_corner → ⊥
far_corner_is_not_here h = let e = h.nothing 1 (0, omega arith, refl) in cc

twice_is_not_here : IsAtPoint square root (pos 2 ∷ pos 0 ∷ pos 0 ∷ []) → ⊥
unfolding gcd_in gcd_of
twice_is_not_here h = let e = gcd_from_primitive (pos 2 ∷ pos 0 ∷ pos 0 ∷ []) h.primitive in omega arith

negative_is_not_here : IsAtPoint square root (negsuc 0 ∷ pos 0 ∷ pos 0 ∷ []) → ⊥
negative_is_not_here h = let p = h.finite in omega (arith, ints)

-- ---- extreme vectors
corner_is_extreme : IsExtremeIn square corner
unfolding gcd_in gcd_of
corner_is_extreme = record {
  primitive = primitive_from_gcd corner refl;
  inside = record { width = refl; fixed = tt };
  finite = omega (arith, ints);
  rows = all_at (λ i. pos 0 ≤ℤ (square.form i · corner)) (rows_in square.labels)
      (omega (arith, ints), (omega (arith, ints), (omega (arith, ints), (omega (arith, ints), tt))));
  alone = λ z i e f.
      by_three (λ z. square.form 1 · z ≡ pos 0 → square.form 2 · z ≡ pos 0 → IsMultipleOf corner z)
      by z i.width (f 1 (0, omega arith, refl) refl) (f 2 (1, omega arith, refl) refl);
}
  where
    second : (a b c : ℤ) → square.form 1 · (a ∷ b ∷ c ∷ []) ≡ pos 0 → pos 1 *ℤ b ≡ a *ℤ pos 0
    second a b c e = omega (arith, ints)

    third : (a b c : ℤ) → square.form 2 · (a ∷ b ∷ c ∷ []) ≡ pos 0 → pos 1 *ℤ c ≡ a *ℤ pos 0
    third a b c e = omega (arith, ints)

    by : (a b c : ℤ) → square.form 1 · (a ∷ b ∷ c ∷ []) ≡ pos 0 → square.form 2 · (a ∷ b ∷ c ∷ []) ≡ pos 0 →
        IsMultipleOf corner (a ∷ b ∷ c ∷ [])
    by a b c e f =
        let p = mul_comm (pos 1) a in let q = second a b c e in let r = third a b c f in (pos 1, a, one_is_not_zero, cc)

-- (2, 0) is outside, by row 3
outside_is_not_extreme : IsExtremeIn square (pos 1 ∷ pos 2 ∷ pos 0 ∷ []) → ⊥
outside_is_not_extreme x = let n = x.rows 3 (2, omega arith, refl) in omega (arith, ints)

-- on the edge from (0, 0) to (1, 0) only row 2 is 0
edge_is_not_extreme : IsExtremeIn square (pos 2 ∷ pos 1 ∷ pos 0 ∷ []) → ⊥
edge_is_not_extreme x =
    by
    (x.alone corner (record { width = refl; fixed = tt }) (λ e. cc)
    (all_at (λ i. square.form i · (pos 2 ∷ pos 1 ∷ pos 0 ∷ []) ≡ pos 0 → square.form i · corner ≡ pos 0)
    (rows_in square.labels) (λ e. cc, (λ e. refl, (λ e. cc, (λ e. cc, tt))))))
  where
    apart : (p q : ℤ) → p *ℤ pos 1 ≡ q *ℤ pos 2 → p *ℤ pos 0 ≡ q *ℤ pos 1 → p ≡ pos 0
    apart p q e f = omega (arith, ints)

    by : IsMultipleOf (pos 2 ∷ pos 1 ∷ pos 0 ∷ []) corner → ⊥
    by (p, q, n, e) = n (apart p q (ap (at 0) e) (ap (at 1) e))
