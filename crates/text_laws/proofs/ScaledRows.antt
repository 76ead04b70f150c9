-- The fractions that are printed of a row are scaled_entries back to its entries, and are not too wide for it.
use Rattle.std.proofs.Common.{◌≡◌, ◌≢◌, ◌⊎◌, ◌<◌, ◌≤◌, ◌*◌, ◌/◌, ◌^◌, ℕ, zero, suc, ℤ, pos, negsuc, ◌*ℤ◌, false, List, [], ◌∷◌, refl, sym, subst, ◌∙◌, inl, inr, arith}
use Prim.Native.Nat.{◌∣◌}
use Rattle.std.specs.Prelude.{unsigned_abs}
use Rattle.std.specs.List.{list_any, AllByRecursion}
use Rattle.std.proofs.lemmas.Bool.{lt-leb}
use Rattle.std.proofs.lemmas.Nat.Gcd.{le_of_dvd}
use Rattle.std.proofs.Math.Nat.{div-mul_cancel, dvd-mul_right, one-dvd}
use Rattle.poly_num.specs.Divisors.{gcd_of}
use Rattle.poly_num.specs.Fractions.{Fraction, lowest}
use Rattle.poly_num.specs.Numbers.{IsNum}
use Rattle.poly_num.specs.Vectors.{Vector, scale, IsZero, IsPrimitive}
use Rattle.poly_num.proofs.DivisorLemmas.{gcd_of_is}
use Rattle.poly_num.proofs.FractionLemmas.{lowest_ratio}
use Rattle.poly_num.proofs.Order.{cancel, positive_nonzero}
use Rattle.poly_num.proofs.PrimitiveLemmas.{same_primitive}
use Rattle.poly_num.proofs.Ring.{expand, lin, one_mul, mul_comm}
use Rattle.poly_num.proofs.VectorLemmas.{zero-scale, zero_from_scale}
use Rattle.poly_model.specs.declared.kind.Kind.{Kind}
use Rattle.poly_model.specs.declared.kind.Kind.TheVariants.{H, V}
use Rattle.poly_model.specs.ListingText.{is_point}
use Rattle.poly_reader.specs.Laws.{IsTimes, AreReduced}
use Rattle.poly_reader.specs.Scaling.{size_of_den, common_den, scaled_entries, is_wide_row, is_wide_entry}
use Rattle.poly_reader.proofs.DirectionLaws.{IsMultipleOfEach, common_den-dvd, scaled_direction}
use Rattle.text_laws.proofs.NumberTexts.{IsPrintable}
use Rattle.text_laws.proofs.PrintedRows.{whole, wholes, coordinate_fractions, row_fractions}

-- ---- two multiples of one row

pub reduced_from_printable : (row : List Fraction) → AllByRecursion IsPrintable row → AreReduced row
reduced_from_printable [] h = tt
reduced_from_printable (f ∷ row) h = (h.0.reduced, reduced_from_printable row h.1)

one_factor : (a b c d : ℤ) (x y num den : ℤ) → den ≢ pos 0 → b *ℤ (x *ℤ den) ≡ a *ℤ num → d *ℤ (y *ℤ den) ≡ c *ℤ num
    → (b *ℤ c) *ℤ x ≡ (d *ℤ a) *ℤ y
one_factor a b c d x y num den n e f = cancel den ((b *ℤ c) *ℤ x) ((d *ℤ a) *ℤ y) n (left ∙ middle ∙ right)
  where
    left : den *ℤ ((b *ℤ c) *ℤ x) ≡ c *ℤ (b *ℤ (x *ℤ den))
    left = simp expand

    middle : c *ℤ (b *ℤ (x *ℤ den)) ≡ a *ℤ (d *ℤ (y *ℤ den))
    middle = rw (e, f) (simp expand)

    right : a *ℤ (d *ℤ (y *ℤ den)) ≡ den *ℤ ((d *ℤ a) *ℤ y)
    right = simp expand

both_times : (a b c d : ℕ) (row : List Fraction) (u v : Vector) → AreReduced row → IsTimes a b row u → IsTimes c d row v
    → scale (pos b *ℤ pos c) u ≡ scale (pos d *ℤ pos a) v
both_times a b c d [] [] [] r h k = refl
both_times a b c d [] [] (y ∷ v) r h k = absurd k
both_times a b c d [] (x ∷ u) v r h k = absurd h
both_times a b c d (f ∷ row) [] v r h k = absurd h
both_times a b c d (f ∷ row) (x ∷ u) [] r h k = absurd k
both_times a b c d (f ∷ row) (x ∷ u) (y ∷ v) r h k =
    let first = one_factor (pos a) (pos b) (pos c) (pos d) x y f.num f.den
    (positive_nonzero f.den r.0.positive) h.0 k.0 in
    let others = both_times a b c d row u v r.1 h.1 k.1 in
    cc

same_zeros : (p q : ℤ) (u v : Vector) → IsZero u → IsZero v → scale p u ≡ scale q v → u ≡ v
same_zeros p q [] [] h k e = refl
same_zeros p q [] (y ∷ v) h k e = absurd cc
same_zeros p q (x ∷ u) [] h k e = absurd cc
same_zeros p q (x ∷ u) (y ∷ v) h k e =
    let others : scale p u ≡ scale q v = cc in
    let same = same_zeros p q u v h.1 k.1 others in
    let first : x ≡ y = h.0 ∙ sym k.0 in
    cc

same_smallest : (p q : ℕ) (u v : Vector) → 0 < p → 0 < q → IsZero u ⊎ IsPrimitive u → IsZero v ⊎ IsPrimitive v
    → scale (pos p) u ≡ scale (pos q) v → u ≡ v
same_smallest p q u v lp lq (inl z) (inl w) e = same_zeros (pos p) (pos q) u v z w e
same_smallest p q u v lp lq (inl z) (inr w) e =
    absurd (w.0 (zero_from_scale (pos q) v (positive_nonzero (pos q) (omega (arith, lin)))
    (subst IsZero e (zero-scale (pos p) u z))))
same_smallest p q u v lp lq (inr w) (inl z) e =
    absurd (w.0 (zero_from_scale (pos p) u (positive_nonzero (pos p) (omega (arith, lin)))
    (subst IsZero (sym e) (zero-scale (pos q) v z))))
same_smallest p q u v lp lq (inr h) (inr k) e = same_primitive u v p q h k lp e

product_positive : (a b : ℕ) → 0 < a → 0 < b → 0 < a * b
product_positive zero b la lb = absurd (omega arith)
product_positive (suc a) zero la lb = absurd (omega arith)
product_positive (suc a) (suc b) la lb = omega arith

-- a smallest vector that is a positive multiple of the row is what the row is scaled_entries to
scaled_back : (c d : ℕ) (row : List Fraction) (v : Vector) → 0 < c → 0 < d → AreReduced row → IsTimes c d row v
    → IsZero v ⊎ IsPrimitive v → scaled_entries row ≡ v
scaled_back c d row v lc ld r h small =
    let s = scaled_direction row r in
    let (a, b, la, lb, t) = s.multiple in
    same_smallest (b * c) (d * a) (scaled_entries row) v (product_positive b c lb lc)
    (product_positive d a ld la) s.smallest small
    (both_times a b c d row (scaled_entries row) v r t h)

-- ---- a row is the multiple of its fractions by its first entry, or by 1

wholes_times : (v : Vector) → IsTimes 1 1 (wholes v) v
wholes_times [] = tt
wholes_times (y ∷ ys) = (by y, wholes_times ys)
  where
    by : (y : ℤ) → pos 1 *ℤ (y *ℤ pos 1) ≡ pos 1 *ℤ y
    by y = simp expand

coordinates_times : (n : ℕ) (ys : Vector) → 0 < n → IsTimes n 1 (coordinate_fractions (pos n) ys) ys
coordinates_times n [] lt = tt
coordinates_times n (y ∷ ys) lt = (
  by y (lowest y (pos n)).num (lowest y (pos n)).den
      (lowest_ratio y (pos n) (positive_nonzero (pos n) (omega (arith, lin)))),
  coordinates_times n ys lt,
)
  where
    by : (y num den : ℤ) → num *ℤ pos n ≡ y *ℤ den → pos 1 *ℤ (y *ℤ den) ≡ pos n *ℤ num
    by y num den e = rw (← e) (one_mul (num *ℤ pos n) ∙ mul_comm num (pos n))

-- ---- the common denominator

wholes_multiple : (v : Vector) → IsMultipleOfEach 1 (wholes v)
wholes_multiple [] = tt
wholes_multiple (y ∷ ys) = (one-dvd 1, wholes_multiple ys)

lowest_divides : (y : ℤ) (n : ℕ) → size_of_den (lowest y (pos n)) ∣ n
unfolding lowest
lowest_divides y n =
    let g = gcd_of (unsigned_abs y) n in
    subst (λ (m : ℕ). n / g ∣ m) (div-mul_cancel g (gcd_of_is (unsigned_abs y) n).1) (dvd-mul_right (n / g) g)

coordinates_multiple : (n : ℕ) (ys : Vector) → IsMultipleOfEach n (coordinate_fractions (pos n) ys)
coordinates_multiple n [] = tt
coordinates_multiple n (y ∷ ys) = (lowest_divides y n, coordinates_multiple n ys)

narrow_entries : (v : Vector) → AllByRecursion IsNum v → list_any is_wide_entry v ≡ false
narrow_entries [] h = refl
narrow_entries (y ∷ ys) h = rw (lt-leb (2 ^ 127) (unsigned_abs y) h.0) (narrow_entries ys h.1)

-- ---- a row is scaled_entries back

-- the row of fractions is scaled_entries to these entries, and none is too wide
pub record IsScaledTo (v : Vector) (row : List Fraction) : Type 0 where
  pub entries : scaled_entries row ≡ v
  pub narrow : is_wide_row row ≡ false

scaled_to : (c n : ℕ) (row : List Fraction) (v : Vector) → 0 < c → 0 < n → n < 2 ^ 127 → AreReduced row
    → IsTimes c 1 row v → IsMultipleOfEach n row → AllByRecursion IsNum v → IsZero v ⊎ IsPrimitive v → IsScaledTo v row
unfolding is_wide_row
scaled_to c n row v lc ln below r t m h small =
    let e = scaled_back c 1 row v lc (omega arith) r t small in
    let le : common_den row ≤ n = le_of_dvd ln (common_den-dvd n row r m) in
    record { entries = e; narrow = rw (lt-leb (2 ^ 127) (common_den row) (omega arith), e) (narrow_entries v h) }

pub wholes_scaled : (v : Vector) → AllByRecursion IsPrintable (wholes v) → AllByRecursion IsNum v
    → IsZero v ⊎ IsPrimitive v → IsScaledTo v (wholes v)
wholes_scaled v p h small =
    scaled_to 1 1 (wholes v) v (omega arith) (omega arith) (omega arith) (reduced_from_printable (wholes v) p)
    (wholes_times v) (wholes_multiple v) h small

first_times : (n : ℕ) → pos 1 *ℤ (pos n *ℤ pos 1) ≡ pos n *ℤ pos 1
first_times n = one_mul (pos n *ℤ pos 1)

pub row_scaled : (kind : Kind) (v : Vector) → AllByRecursion IsPrintable (row_fractions kind v) → AllByRecursion IsNum v
    → IsZero v ⊎ IsPrimitive v → IsScaledTo v (row_fractions kind v)
unfolding is_point
row_scaled V v p h small = wholes_scaled v p h small
row_scaled H [] p h small = wholes_scaled [] p h small
row_scaled H (pos zero ∷ ys) p h small = wholes_scaled (pos zero ∷ ys) p h small
row_scaled H (pos (suc n) ∷ ys) p h small =
    scaled_to (suc n) (suc n) (whole (pos 1) ∷ coordinate_fractions (pos (suc n)) ys) (pos (suc n) ∷ ys) (omega arith)
    (omega arith) h.0
    (reduced_from_printable (whole (pos 1) ∷ coordinate_fractions (pos (suc n)) ys) p)
    (first_times (suc n), coordinates_times (suc n) ys (omega arith))
    (one-dvd (suc n), coordinates_multiple (suc n) ys) h small
row_scaled H (negsuc n ∷ ys) p h small = wholes_scaled (negsuc n ∷ ys) p h small
