-- Extreme vectors of H files that are known from a drawing: a wrong definition does not check.
use Rattle.std.proofs.Common.{◌≡◌, true, ℤ, pos, ◌*ℤ◌, ◌+ℤ◌, [], ◌∷◌, arith, refl, ap}
use Rattle.std.proofs.lemmas.Int.{ints}
use Rattle.std.proofs.lemmas.List.Elements.{All-from_recursion}
use Rattle.poly_num.specs.Vectors.{IsMultipleOf}
use Rattle.poly_num.specs.Divisors.{gcd_in, gcd_of}
use Rattle.poly_num.proofs.PrimitiveLemmas.{primitive_from_gcd, gcd_from_primitive}
use Rattle.poly_num.proofs.Ring.{mul_comm}
use Rattle.poly_model.specs.Cones.{at, Meets, IsTight}
use Rattle.poly_model.specs.Extreme.{IsOnFace, IsExtreme}
use Rattle.linear_laws.proofs.Entries.{by_three}
use Rattle.linear_laws.proofs.Signs.{one_is_not_zero}
use Rattle.cone_laws.proofs.KnownValues.{row_of, square, quadrant, strip, corner, centre, axis, diagonal, corner_in_square}
use Rattle.cone_laws.proofs.KnownColumns.{height_is_free, only_height_is_free, square_has_no_free_column, quadrant_has_no_free_column}

pub gone : (x y : ℤ) → x ≡ pos 0 → pos 1 *ℤ x ≡ y *ℤ pos 0
gone x y e = omega (arith, ints)

-- a form that reads one coordinate is 0
second : (a b c : ℤ) → pos 0 *ℤ a +ℤ (pos 1 *ℤ b +ℤ (pos 0 *ℤ c +ℤ pos 0)) ≡ pos 0 → b ≡ pos 0
second a b c e = omega (arith, ints)

third : (a b c : ℤ) → pos 0 *ℤ a +ℤ (pos 0 *ℤ b +ℤ (pos 1 *ℤ c +ℤ pos 0)) ≡ pos 0 → c ≡ pos 0
third a b c e = omega (arith, ints)

-- ---- the unit square
-- (0, 0) is a vertex: along what is tight there, all is a multiple of it
pub corner_is_extreme : IsExtreme square corner
unfolding gcd_in gcd_of
corner_is_extreme = record {
  primitive = primitive_from_gcd corner refl;
  free = λ j f. absurd (square_has_no_free_column j f);
  in_cone = corner_in_square;
  alone = λ z f. by_three (λ z. IsOnFace square corner z → IsMultipleOf corner z) alone z f.width f;
  shown = tt;
}
  where
    alone : (a b c : ℤ) → IsOnFace square corner (a ∷ b ∷ c ∷ []) → IsMultipleOf corner (a ∷ b ∷ c ∷ [])
    alone a b c f =
        let p = mul_comm (pos 1) a in
        let q = gone b a (second a b c (f.tight 0 (row_of []) (omega arith) refl)) in
        let r = gone c a (third a b c (f.tight 1 (row_of []) (omega arith) refl)) in
        (pos 1, a, one_is_not_zero, cc)

-- the centre is not: no row is tight there, so that (1, 0, 0) is on its face, and that is no multiple of it
centre_is_not_extreme : IsExtreme square centre → ⊥
centre_is_not_extreme x = by (x.alone corner face)
  where
    face : IsOnFace square centre corner
    face = record {
      width = refl;
      free = λ j f. absurd (square_has_no_free_column j f);
      linear =
          All-from_recursion (λ row. row.linear ≡ true → IsTight corner row) square.rows
          (λ e. cc, (λ e. cc, (λ e. cc, (λ e. cc, (λ e. cc, tt)))));
      tight =
          All-from_recursion (λ row. IsTight centre row → IsTight corner row) square.rows
          (λ e. cc, (λ e. cc, (λ e. cc, (λ e. cc, (λ e. cc, tt)))));
    }

    by : IsMultipleOf centre corner → ⊥
    by (p, q, n, e) = n (apart p q (ap (at 0) e) (ap (at 1) e))
      where
        apart : (p q : ℤ) → p *ℤ pos 1 ≡ q *ℤ pos 2 → p *ℤ pos 0 ≡ q *ℤ pos 1 → p ≡ pos 0
        apart p q e f = omega (arith, ints)

-- twice the corner is not primitive
twice_the_corner_is_not_extreme : IsExtreme square (pos 2 ∷ pos 0 ∷ pos 0 ∷ []) → ⊥
unfolding gcd_in gcd_of
twice_the_corner_is_not_extreme x =
    let e = gcd_from_primitive (pos 2 ∷ pos 0 ∷ pos 0 ∷ []) x.primitive in omega arith

-- ---- the quadrant
-- the direction of the axis of x
axis_is_extreme : IsExtreme quadrant axis
unfolding gcd_in gcd_of
axis_is_extreme = record {
  primitive = primitive_from_gcd axis refl;
  free = λ j f. absurd (quadrant_has_no_free_column j f);
  in_cone = record {
    width = refl;
    meets =
        All-from_recursion (Meets axis) quadrant.rows
        (omega (arith, ints), (omega (arith, ints), (omega (arith, ints), tt)));
  };
  alone = λ z f. by_three (λ z. IsOnFace quadrant axis z → IsMultipleOf axis z) alone z f.width f;
  shown = tt;
}
  where
    first : (a b c : ℤ) → pos 1 *ℤ a +ℤ (pos 0 *ℤ b +ℤ (pos 0 *ℤ c +ℤ pos 0)) ≡ pos 0 → a ≡ pos 0
    first a b c e = omega (arith, ints)

    alone : (a b c : ℤ) → IsOnFace quadrant axis (a ∷ b ∷ c ∷ []) → IsMultipleOf axis (a ∷ b ∷ c ∷ [])
    alone a b c f =
        let p = gone a b (first a b c (f.tight 2 (row_of []) (omega arith) refl)) in
        let q = mul_comm (pos 1) b in
        let r = gone c b (third a b c (f.tight 1 (row_of []) (omega arith) refl)) in
        (pos 1, b, one_is_not_zero, cc)

-- the diagonal lies inside: only the row at infinity is tight, and (0, 1, 0) is 0 there too
diagonal_is_not_extreme : IsExtreme quadrant diagonal → ⊥
diagonal_is_not_extreme x = by (x.alone axis face)
  where
    face : IsOnFace quadrant diagonal axis
    face = record {
      width = refl;
      free = λ j f. absurd (quadrant_has_no_free_column j f);
      linear =
          All-from_recursion (λ row. row.linear ≡ true → IsTight axis row) quadrant.rows
          (λ e. cc, (λ e. cc, (λ e. cc, tt)));
      tight =
          All-from_recursion (λ row. IsTight diagonal row → IsTight axis row) quadrant.rows
          (λ e. cc, (λ e. cc, (λ e. refl, tt)));
    }

    by : IsMultipleOf diagonal axis → ⊥
    by (p, q, n, e) = n (apart p q (ap (at 1) e) (ap (at 2) e))
      where
        apart : (p q : ℤ) → p *ℤ pos 1 ≡ q *ℤ pos 1 → p *ℤ pos 0 ≡ q *ℤ pos 1 → p ≡ pos 0
        apart p q e f = omega (arith, ints)

-- ---- the strip
-- (0, 0) is extreme in its cone: with the entry of the free column 0, only its multiples are on its face
foot_is_extreme : IsExtreme strip corner
unfolding gcd_in gcd_of
foot_is_extreme = record {
  primitive = primitive_from_gcd corner refl;
  free = λ j f. ap (λ k. at k corner) (only_height_is_free j f);
  in_cone = record {
    width = refl;
    meets =
        All-from_recursion (Meets corner) strip.rows
        (omega (arith, ints), (omega (arith, ints), (omega (arith, ints), tt)));
  };
  alone = λ z f. by_three (λ z. IsOnFace strip corner z → IsMultipleOf corner z) alone z f.width f;
  shown = tt;
}
  where
    alone : (a b c : ℤ) → IsOnFace strip corner (a ∷ b ∷ c ∷ []) → IsMultipleOf corner (a ∷ b ∷ c ∷ [])
    alone a b c f =
        let p = mul_comm (pos 1) a in
        let q = gone b a (second a b c (f.tight 0 (row_of []) (omega arith) refl)) in
        let r = gone c a (f.free 2 height_is_free) in
        (pos 1, a, one_is_not_zero, cc)

-- (0, 5), above it, is not 0 at the free column
above_it_is_not_extreme : IsExtreme strip (pos 1 ∷ pos 0 ∷ pos 5 ∷ []) → ⊥
above_it_is_not_extreme x = let e = x.free 2 height_is_free in cc
