-- The four corners of the unit square and the first list of each.
use Rattle.std.proofs.Common.{◌≡◌, true, false, ℤ, pos, negsuc, ◌+ℤ◌, ◌*ℤ◌, [], ◌∷◌, length, refl, arith}
use Rattle.std.specs.Prelude.{◌≤ℤ◌}
use Rattle.std.proofs.lemmas.Int.{ints}
use Rattle.std.specs.List.{AllByRecursion}
use Rattle.poly_num.specs.Vectors.{Vector, ◌·◌, IsPrimitive, IsMultipleOf}
use Rattle.poly_num.specs.Divisors.{gcd_in, gcd_of}
use Rattle.poly_num.proofs.PrimitiveLemmas.{primitive_from_gcd}
use Rattle.poly_num.proofs.Ring.{mul_comm}
use Rattle.linear_laws.specs.Corners.{IsOnTight}
use Rattle.linear_laws.proofs.Entries.{by_three}
use Rattle.linear_laws.proofs.Signs.{one_is_not_zero}
use Rattle.cone_laws.proofs.KnownValues.{axis, upward}
use Rattle.listing_laws.specs.ListedCone.{IsShownCorner}
use Rattle.listing_laws.specs.Prefixes.{IsCornerUnder}
use Rattle.listing_laws.proofs.KnownValues.{square_cone}

-- the points (1, 0), (0, 1) and (1, 1)
abbrev right : Vector
right = pos 1 ∷ pos 1 ∷ pos 0 ∷ []

abbrev top : Vector
top = pos 1 ∷ pos 0 ∷ pos 1 ∷ []

abbrev far : Vector
far = pos 1 ∷ pos 1 ∷ pos 1 ∷ []

shown_if : (y : Vector) → IsPrimitive y → length y ≡ 3 → AllByRecursion (λ g. pos 0 ≤ℤ (g · y)) square_cone.rows →
    ((a b c : ℤ) → IsOnTight y square_cone.rows (a ∷ b ∷ c ∷ []) → IsMultipleOf y (a ∷ b ∷ c ∷ [])) →
    IsShownCorner square_cone y
shown_if y p l h alone = record {
  corner = record {
    primitive = p;
    in_cone = record { width = l; vanishing = tt; nonnegative = h };
    alone = λ z w v t.
        by_three (λ z. IsOnTight y square_cone.rows z → IsMultipleOf y z) alone z w t;
  };
  shown = refl;
}

-- (a, b, c) is a times (1, q, r)
a_times : (a b c q r : ℤ) → pos 1 *ℤ b ≡ a *ℤ q → pos 1 *ℤ c ≡ a *ℤ r →
    IsMultipleOf (pos 1 ∷ q ∷ r ∷ []) (a ∷ b ∷ c ∷ [])
a_times a b c q r e f = let k = mul_comm (pos 1) a in (pos 1, a, one_is_not_zero, cc)

-- what the rows x >= 0, y >= 0, x <= 1, y <= 1 say where they are 0
at_left : (a b c : ℤ) → pos 0 *ℤ a +ℤ (pos 1 *ℤ b +ℤ (pos 0 *ℤ c +ℤ pos 0)) ≡ pos 0 → pos 1 *ℤ b ≡ a *ℤ pos 0
at_left a b c e = omega (arith, ints)

at_bottom : (a b c : ℤ) → pos 0 *ℤ a +ℤ (pos 0 *ℤ b +ℤ (pos 1 *ℤ c +ℤ pos 0)) ≡ pos 0 → pos 1 *ℤ c ≡ a *ℤ pos 0
at_bottom a b c e = omega (arith, ints)

at_right : (a b c : ℤ) → pos 1 *ℤ a +ℤ (negsuc 0 *ℤ b +ℤ (pos 0 *ℤ c +ℤ pos 0)) ≡ pos 0 → pos 1 *ℤ b ≡ a *ℤ pos 1
at_right a b c e = omega (arith, ints)

at_top : (a b c : ℤ) → pos 1 *ℤ a +ℤ (pos 0 *ℤ b +ℤ (negsuc 0 *ℤ c +ℤ pos 0)) ≡ pos 0 → pos 1 *ℤ c ≡ a *ℤ pos 1
at_top a b c e = omega (arith, ints)

abbrev AtLeastZero : Vector → Type 0
AtLeastZero y = AllByRecursion (λ g. pos 0 ≤ℤ (g · y)) square_cone.rows

-- ---- the rows 2 and 3
list_of_right : IsCornerUnder square_cone (false ∷ true ∷ true ∷ false ∷ false ∷ []) right
unfolding gcd_in gcd_of
list_of_right = (
  shown_if right (primitive_from_gcd right refl) refl inside
      (λ a b c t. a_times a b c (pos 1) (pos 0) (at_right a b c (t.1.1.0 refl)) (at_bottom a b c (t.1.0 refl))),
  (
    (λ e. cc),
    (
      refl,
      (upward, refl, tt, λ e. cc),
      (refl, (axis, refl, (refl, tt), λ e. cc), ((λ e. cc), ((λ e. cc), tt))),
    ),
  ),
)
  where
    inside : AtLeastZero right
    inside = (
      omega (arith, ints),
      (omega (arith, ints), (omega (arith, ints), (omega (arith, ints), (omega (arith, ints), tt)))),
    )

-- ---- the rows 1 and 4
list_of_top : IsCornerUnder square_cone (true ∷ false ∷ false ∷ true ∷ false ∷ []) top
unfolding gcd_in gcd_of
list_of_top = (
  shown_if top (primitive_from_gcd top refl) refl inside
      (λ a b c t. a_times a b c (pos 0) (pos 1) (at_left a b c (t.0 refl)) (at_top a b c (t.1.1.1.0 refl))),
  (
    refl,
    (axis, refl, tt, λ e. cc),
    (
      (λ e. cc),
      (
        (λ e. cc),
        (refl, (upward, refl, (refl, tt), λ e. cc), ((λ e. cc), tt)),
      ),
    ),
  ),
)
  where
    inside : AtLeastZero top
    inside = (
      omega (arith, ints),
      (omega (arith, ints), (omega (arith, ints), (omega (arith, ints), (omega (arith, ints), tt)))),
    )

-- ---- the rows 3 and 4
list_of_far : IsCornerUnder square_cone (false ∷ false ∷ true ∷ true ∷ false ∷ []) far
unfolding gcd_in gcd_of
list_of_far = (
  shown_if far (primitive_from_gcd far refl) refl inside
      (λ a b c t. a_times a b c (pos 1) (pos 1) (at_right a b c (t.1.1.0 refl)) (at_top a b c (t.1.1.1.0 refl))),
  (
    (λ e. cc),
    (
      (λ e. cc),
      (
        refl,
        (axis, refl, tt, λ e. cc),
        (refl, (upward, refl, (refl, tt), λ e. cc), ((λ e. cc), tt)),
      ),
    ),
  ),
)
  where
    inside : AtLeastZero far
    inside = (
      omega (arith, ints),
      (omega (arith, ints), (omega (arith, ints), (omega (arith, ints), (omega (arith, ints), tt)))),
    )
