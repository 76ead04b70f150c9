-- A scaled row is zero or primitive, and a positive multiple of the row of fractions.
use Rattle.std.proofs.Common.{◌≡◌, ◌<◌, ◌≤◌, ◌*◌, ◌/◌, ℕ, ℤ, zero, suc, pos, negsuc, max, ◌*ℤ◌, List, [], ◌∷◌, map, refl, sym, ap, subst, ◌∙◌, inl, inr, arith}
use Prim.Native.Nat.{◌∣◌}
use Rattle.std.specs.Prelude.{◌<ℤ◌, unsigned_abs, int_div}
use Rattle.std.specs.Int.{IsGcd}
use Rattle.std.specs.List.{AllByRecursion, fold}
use Rattle.std.proofs.lemmas.Int.{unsigned_abs-mul}
use Rattle.std.proofs.lemmas.Nat.Gcd.{dvd-zero, dvd_trans, le_of_dvd}
use Rattle.std.proofs.Math.Nat.{mul_assoc, mul_comm, mul_right_comm, div-mul_cancel, dvd-mul_left, dvd-mul_right, dvd_of_mul-dvd-mul_right, mul-dvd-mul_right, eq-one_of_dvd-one, one-dvd, one-mul}
use Rattle.poly_num.specs.Vectors.{Vector, IsZero, IsPrimitive, DividesEach}
use Rattle.poly_num.specs.Divisors.{gcd_of, gcd_of_all, quotients}
use Rattle.poly_num.specs.Fractions.{Fraction, IsReduced}
use Rattle.poly_num.proofs.Ring.{expand, lin, zero_mul}
use Rattle.poly_num.proofs.DivisorLemmas.{gcd_of_is, gcd_positive, quotient_times}
use Rattle.poly_num.proofs.PrimitiveLemmas.{DividesEach_from_dvd, gcd_of_all_divides, zero_from_gcd, primitive_left, scale-quotients}
use Rattle.poly_reader.specs.Scaling.{lcm_of, size_of_den, common_den, numerators, entry_of, scaled_entries}
use Rattle.poly_reader.specs.Laws.{IsTimes, IsDirectionOf, AreReduced}
use Rattle.poly_reader.proofs.Multiples.{dvd_from_coprime, dvd-lcm_left, dvd-lcm_right, lcm-dvd, lcm_at_least}

-- n is a multiple of each denominator
abbrev pub IsMultipleOfEach : ℕ → List Fraction → Type 0
IsMultipleOfEach n row = AllByRecursion (λ (f : Fraction). size_of_den f ∣ n) row

den_positive : (f : Fraction) → IsReduced f → 0 < size_of_den f
den_positive f h = by f.den h.positive
  where
    by : (z : ℤ) → pos 0 <ℤ z → 0 < unsigned_abs z
    by (pos n) lt = omega (arith, lin)
    by (negsuc n) lt = absurd (omega (arith, lin))

-- ---- the least common denominator

abbrev den_from : ℕ → List Fraction → ℕ
den_from q row = fold (λ (q : ℕ) (f : Fraction). lcm_of q (size_of_den f)) q row

den_from_positive : (q : ℕ) (row : List Fraction) → 0 < q → AreReduced row → 0 < den_from q row
den_from_positive q [] lt h = lt
den_from_positive q (f ∷ row) lt h =
    let le = lcm_at_least q (size_of_den f) (den_positive f h.0) in
    den_from_positive (lcm_of q (size_of_den f)) row (omega arith) h.1

dvd-den_from : (q : ℕ) (row : List Fraction) → q ∣ den_from q row
dvd-den_from q [] = subst (λ (n : ℕ). q ∣ n) (one-mul q) (dvd-mul_left q 1)
dvd-den_from q (f ∷ row) =
    dvd_trans q (dvd-lcm_left q (size_of_den f)) (dvd-den_from (lcm_of q (size_of_den f)) row)

multiple_den_from : (q : ℕ) (row : List Fraction) → IsMultipleOfEach (den_from q row) row
multiple_den_from q [] = tt
multiple_den_from q (f ∷ row) = (
  dvd_trans _ (dvd-lcm_right q (size_of_den f)) (dvd-den_from (lcm_of q (size_of_den f)) row),
  multiple_den_from (lcm_of q (size_of_den f)) row,
)

den_from-dvd : (q m : ℕ) (row : List Fraction) → AreReduced row → q ∣ m → IsMultipleOfEach m row → den_from q row ∣ m
den_from-dvd q m [] h k l = k
den_from-dvd q m (f ∷ row) h k l =
    den_from-dvd (lcm_of q (size_of_den f)) m row h.1 (lcm-dvd q (size_of_den f) m (den_positive f h.0) k l.0) l.1

-- the least common denominator divides each multiple of the denominators
pub common_den-dvd : (m : ℕ) (row : List Fraction) → AreReduced row → IsMultipleOfEach m row → common_den row ∣ m
unfolding common_den
common_den-dvd m row h l = den_from-dvd 1 m row h (one-dvd m) l

-- ---- each entry is a positive multiple of its fraction

reorder : (p u c k : ℤ) → p *ℤ ((u *ℤ c) *ℤ k) ≡ (c *ℤ k) *ℤ (u *ℤ p)
reorder p u c k = simp expand (omega (arith, lin))

one_times : (p q : ℕ) (num den : ℤ) → pos 0 <ℤ den → p ∣ unsigned_abs num → unsigned_abs den ∣ q
    → pos p *ℤ ((int_div num (pos p) *ℤ pos (q / unsigned_abs den)) *ℤ den) ≡ pos q *ℤ num
one_times p q num (negsuc k) lt h l = absurd (omega (arith, lin))
one_times p q num (pos k) lt h l =
    reorder (pos p) (int_div num (pos p)) (pos (q / k)) (pos k)
    ∙ ap (λ (z : ℤ). z *ℤ (int_div num (pos p) *ℤ pos p)) (ap pos (div-mul_cancel k l))
    ∙ ap (λ (z : ℤ). pos q *ℤ z) (quotient_times p num h)

times_each : (p q : ℕ) (row : List Fraction) → AreReduced row → DividesEach p (numerators row) → IsMultipleOfEach q row
    → IsTimes q p row (map (entry_of p q) row)
times_each p q [] h k l = tt
times_each p q (f ∷ row) h k l = (one_times p q f.num f.den h.0.positive k.0 l.0, times_each p q row h.1 k.1 l.1)

-- ---- no greater number than 1 divides all entries

-- where s is a numerator over the divisor and c the common denominator over d
one_den : (s n d c g q : ℕ) → s ∣ n → IsGcd n d 1 → 0 < g → c * d ≡ q * g → g ∣ s * c → d ∣ q
one_den s n d c g q divides coprime positive e h =
    let product : s * c * d ≡ s * q * g = mul_assoc s c d ∙ ap (λ (z : ℕ). s * z) e ∙ sym (mul_assoc s q g) in
    let t = s * c / g in
    let parts : t * d * g ≡ s * q * g =
    mul_right_comm t d g ∙ ap (λ (z : ℕ). z * d) (div-mul_cancel g h) ∙ product in
    let same : d ∣ s * q = dvd_of_mul-dvd-mul_right d positive
    (subst (λ (z : ℕ). d * g ∣ z) parts (mul-dvd-mul_right d (dvd-mul_left d t) g)) in
    let one : gcd_of d s ≡ 1 =
    eq-one_of_dvd-one (coprime.2 (gcd_of d s) (dvd_trans _ (gcd_of_is d s).1 divides) (gcd_of_is d s).0) in
    dvd_from_coprime d s q one same

-- the size of an entry
size_of_entry : (p q : ℕ) (f : Fraction) →
    unsigned_abs (entry_of p q f) ≡ unsigned_abs (int_div f.num (pos p)) * (q / size_of_den f)
size_of_entry p q f = unsigned_abs-mul (int_div f.num (pos p)) (pos (q / size_of_den f))

-- a numerator over the divisor divides the numerator
quotient_divides : (p : ℕ) (num : ℤ) → p ∣ unsigned_abs num → unsigned_abs (int_div num (pos p)) ∣ unsigned_abs num
quotient_divides p num h =
    subst (λ (n : ℕ). unsigned_abs (int_div num (pos p)) ∣ n)
    (sym (unsigned_abs-mul (int_div num (pos p)) (pos p)) ∙ ap unsigned_abs (quotient_times p num h))
    (dvd-mul_right (unsigned_abs (int_div num (pos p))) p)

-- g divides the common denominator and all entries: what is left of the common denominator is still one
still_common : (p q g r : ℕ) (row : List Fraction) → AreReduced row → DividesEach p (numerators row) →
    IsMultipleOfEach q row
    → 0 < g → r * g ≡ q → DividesEach g (map (entry_of p q) row) → IsMultipleOfEach r row
still_common p q g r [] h k l lt e v = tt
still_common p q g r (f ∷ row) h k l lt e v = (
  one_den (unsigned_abs (int_div f.num (pos p))) (unsigned_abs f.num) (size_of_den f) (q / size_of_den f) g r
      (quotient_divides p f.num k.0) h.0.coprime lt (div-mul_cancel (size_of_den f) l.0 ∙ sym e)
      (subst (λ (n : ℕ). g ∣ n) (size_of_entry p q f) v.0),
  still_common p q g r row h.1 k.1 l.1 lt e v.1,
)

only_one : (q r g : ℕ) → 0 < q → r * g ≡ q → q ∣ r → g ≡ 1
only_one q zero g lt e h = absurd (omega arith)
only_one q (suc r) zero lt e h = absurd (omega arith)
only_one q (suc r) (suc zero) lt e h = refl
only_one q (suc r) (suc (suc g)) lt e h = let le : q ≤ suc r = le_of_dvd (omega arith) h in absurd (omega arith)

-- what divides all entries shares only 1 with the least common denominator
coprime_to_den : (p d : ℕ) (row : List Fraction) → AreReduced row → DividesEach p (numerators row)
    → DividesEach d (map (entry_of p (den_from 1 row)) row) → gcd_of d (den_from 1 row) ≡ 1
coprime_to_den p d row h k v =
    let q = den_from 1 row in let g = gcd_of d q in let both = gcd_of_is d q in
    let positive = den_from_positive 1 row (omega arith) h in
    let e : q / g * g ≡ q = div-mul_cancel g both.1 in
    let common = still_common p q g (q / g) row h k (multiple_den_from 1 row) (gcd_positive d q g positive both) e
    (DividesEach_from_dvd g d (map (entry_of p q) row) both.0 v) in
    only_one q (q / g) g positive e (den_from-dvd 1 (q / g) row h (one-dvd (q / g)) common)

-- then it divides each numerator over the divisor
divides_quotients : (p q d : ℕ) (row : List Fraction) → IsMultipleOfEach q row → gcd_of d q ≡ 1
    → DividesEach d (map (entry_of p q) row) → DividesEach d (quotients (numerators row) (pos p))
divides_quotients p q d [] l one v = tt
divides_quotients p q d (f ∷ row) l one v =
    let c = q / size_of_den f in
    let s = unsigned_abs (int_div f.num (pos p)) in
    let c_divides : c ∣ q =
    subst (λ (n : ℕ). c ∣ n) (div-mul_cancel (size_of_den f) l.0) (dvd-mul_right c (size_of_den f)) in
    let both = gcd_of_is d c in
    let coprime : gcd_of d c ≡ 1 =
    eq-one_of_dvd-one (subst (λ (n : ℕ). gcd_of d c ∣ n) one
    ((gcd_of_is d q).2 (gcd_of d c) both.0 (dvd_trans _ both.1 c_divides))) in
    let product : d ∣ c * s = subst (λ (n : ℕ). d ∣ n) (size_of_entry p q f ∙ mul_comm s c) v.0 in
    (dvd_from_coprime d c s coprime product, divides_quotients p q d row l.1 one v.1)

divides_zeros : (d : ℕ) (v : Vector) → IsZero v → DividesEach d v
divides_zeros d [] z = tt
divides_zeros d (x ∷ v) z = (subst (λ (t : ℤ). d ∣ unsigned_abs t) (sym z.0) (dvd-zero d), divides_zeros d v z.1)

primitive_entries : (p : ℕ) (row : List Fraction) → AreReduced row → 0 < p → p ≡ gcd_of_all (numerators row)
    → IsPrimitive (map (entry_of p (den_from 1 row)) row)
primitive_entries p row h lt e = (λ z. not_one 2 refl (one_only 2 (omega arith) (divides_zeros 2 _ z)), one_only)
  where
    divides : DividesEach p (numerators row)
    divides = subst (λ (n : ℕ). DividesEach n (numerators row)) (sym e) (gcd_of_all_divides (numerators row))

    one_only : (d : ℕ) → 0 < d → DividesEach d (map (entry_of p (den_from 1 row)) row) → d ≡ 1
    one_only d lt_d v =
        (primitive_left (numerators row) (quotients (numerators row) (pos p)) p lt e
        (scale-quotients p (numerators row) divides)).1 d lt_d
        (divides_quotients p (den_from 1 row) d row (multiple_den_from 1 row) (coprime_to_den p d row h divides v) v)

    not_one : (n : ℕ) → n ≡ 2 → n ≡ 1 → ⊥
    not_one n k l = omega arith

zero_entries : (p q : ℕ) (row : List Fraction) → p ≡ 1 → IsZero (numerators row) → IsZero (map (entry_of p q) row)
zero_entries p q [] e z = tt
zero_entries p q (f ∷ row) e z =
    (rw (e, z.0) (zero_mul (pos (q / size_of_den f))), zero_entries p q row e z.1)

divides_by_one : (v : Vector) → DividesEach 1 v
divides_by_one [] = tt
divides_by_one (x ∷ v) = (one-dvd (unsigned_abs x), divides_by_one v)

by_divisor : (g : ℕ) (row : List Fraction) → AreReduced row → g ≡ gcd_of_all (numerators row)
    → IsDirectionOf row (map (entry_of (max g 1) (den_from 1 row)) row)
by_divisor zero row h e = record {
  smallest = inl (zero_entries 1 (den_from 1 row) row refl (zero_from_gcd (numerators row) (sym e)));
  multiple = (
    den_from 1 row,
    1,
    den_from_positive 1 row (omega arith) h,
    omega arith,
    times_each 1 (den_from 1 row) row h (divides_by_one (numerators row)) (multiple_den_from 1 row),
  );
}
by_divisor (suc g) row h e =
    let m : max (suc g) 1 ≡ suc g = omega arith in
    rw m (record {
      smallest = inr (primitive_entries (suc g) row h (omega arith) e);
      multiple = (
        den_from 1 row,
        suc g,
        den_from_positive 1 row (omega arith) h,
        omega arith,
        times_each (suc g) (den_from 1 row) row h
            (subst (λ (n : ℕ). DividesEach n (numerators row)) (sym e) (gcd_of_all_divides (numerators row)))
            (multiple_den_from 1 row),
      );
    })

pub scaled_direction : (row : List Fraction) → AreReduced row → IsDirectionOf row (scaled_entries row)
unfolding scaled_entries common_den
scaled_direction row h = by_divisor (gcd_of_all (numerators row)) row h refl
