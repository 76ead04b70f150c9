-- Euclid's steps give the greatest common divisor, and what that divides.
use Rattle.std.proofs.Common.{◌≡◌, ℕ, zero, suc, ◌*◌, ◌/◌, ◌%◌, ◌<◌, ◌≤◌, max, arith, refl, ap, sym, subst, ◌∙◌, ℤ, pos, negsuc, neg_ℤ, ◌*ℤ◌}
use Prim.Native.Nat.{◌∣◌}
use Rattle.std.specs.Prelude.{unsigned_abs, int_div}
use Rattle.std.specs.Int.{IsGcd}
use Rattle.std.proofs.lemmas.Int.{unsigned_abs-mul}
use Rattle.std.proofs.lemmas.Nat.Gcd.{dvd-zero, dvd_trans, le_of_dvd, IsGcd-from_zero, IsGcd-from_mod, IsGcd-swap, same_from_IsGcd}
use Rattle.std.proofs.Math.Nat.{dvd-mul_left, one-dvd, one-mul, eq-zero_of_zero-dvd, div-mul_cancel, mul-dvd-mul_right, dvd_of_mul-dvd-mul_right}
use Rattle.poly_num.specs.Divisors.{gcd_in, gcd_of, IsGcdOf}
use Rattle.poly_num.proofs.Ring.{neg-mul, lin}

gcd_in_is : (n a b : ℕ) → b ≤ n → IsGcd a b (gcd_in n a b)
unfolding gcd_in
gcd_in_is zero a b le = IsGcd-from_zero a b (omega arith)
gcd_in_is (suc n) a zero le = IsGcd-from_zero a zero refl
gcd_in_is (suc n) a (suc b) le = IsGcd-from_mod a (suc b) _ (gcd_in_is n (suc b) (a % suc b) (omega arith))

pub gcd_of_is : (a b : ℕ) → IsGcd a b (gcd_of a b)
unfolding gcd_of
gcd_of_is a b = gcd_in_is b a b (omega arith)

pub gcd_same : (a b g : ℕ) → IsGcd a b g → g ≡ gcd_of a b
gcd_same a b g h = same_from_IsGcd a b g (gcd_of a b) h (gcd_of_is a b)

pub gcd_of_comm : (a b : ℕ) → gcd_of a b ≡ gcd_of b a
gcd_of_comm a b = gcd_same b a (gcd_of a b) (IsGcd-swap a b (gcd_of a b) (gcd_of_is a b))

pub IsGcd-one : (a b : ℕ) → b ≡ 1 → IsGcd a b 1
IsGcd-one a b e = rw e (one-dvd a, one-dvd 1, λ d p q. q)

pub gcd_of-zero : (a : ℕ) → gcd_of a 0 ≡ a
gcd_of-zero a = sym (gcd_same a 0 a (IsGcd-from_zero a 0 refl))

pub zero-gcd_of : (b : ℕ) → gcd_of 0 b ≡ b
zero-gcd_of b = gcd_of_comm 0 b ∙ gcd_of-zero b

pub one-gcd_of : (b : ℕ) → gcd_of 1 b ≡ 1
one-gcd_of b = sym (gcd_same 1 b 1 (one-dvd 1, one-dvd b, λ d h k. h))

pub gcd_of_assoc : (a b c : ℕ) → gcd_of (gcd_of a b) c ≡ gcd_of a (gcd_of b c)
gcd_of_assoc a b c =
    let ab = gcd_of_is a b in let bc = gcd_of_is b c in
    let l = gcd_of_is (gcd_of a b) c in
    gcd_same a (gcd_of b c) (gcd_of (gcd_of a b) c) (
      dvd_trans _ l.0 ab.0,
      bc.2 _ (dvd_trans _ l.0 ab.1) l.1,
      λ d p q. l.2 d (ab.2 d p (dvd_trans d q bc.0)) (dvd_trans d q bc.1),
    )

pub gcd_bounded : (a b g : ℕ) → IsGcd a b g → g ≤ max a b
gcd_bounded zero zero g d = let e = eq-zero_of_zero-dvd (d.2 zero (dvd-zero zero) (dvd-zero zero)) in omega arith
gcd_bounded zero (suc b) g d = let e : g ≤ suc b = le_of_dvd (omega arith) d.1 in omega arith
gcd_bounded (suc a) b g d = let e : g ≤ suc a = le_of_dvd (omega arith) d.0 in omega arith

pub gcd_positive : (a b g : ℕ) → 0 < b → IsGcd a b g → 0 < g
gcd_positive a b zero lt h = let e = eq-zero_of_zero-dvd h.1 in absurd (omega arith)
gcd_positive a b (suc g) lt h = omega arith

pub gcd_within : (a b g : ℕ) → 0 < b → IsGcd a b g → g ≤ b
gcd_within a b g lt h = le_of_dvd lt h.1

quotient_positive : (b g q : ℕ) → 0 < b → q * g ≡ b → 0 < q
quotient_positive b g zero lt e = absurd (omega arith)
quotient_positive b g (suc q) lt e = omega arith

-- what is left of a positive number
pub left_positive : (b g : ℕ) → 0 < b → g ∣ b → 0 < b / g
left_positive b g lt h = quotient_positive b g (b / g) lt (div-mul_cancel g h)

-- what is left of z, times the divisor
pub quotient_times : (g : ℕ) (z : ℤ) → g ∣ unsigned_abs z → int_div z (pos g) *ℤ pos g ≡ z
quotient_times g (pos n) h = ap pos (div-mul_cancel g h)
quotient_times g (negsuc n) h = simp (neg-mul, div-mul_cancel g h)

pub dvd-multiple : (p q : ℤ) → unsigned_abs p ∣ unsigned_abs (q *ℤ p)
dvd-multiple p q = rw (unsigned_abs-mul q p) (dvd-mul_left (unsigned_abs p) (unsigned_abs q))

pub IsGcdOf_from_sizes : (a b : ℤ) (g : ℕ) → IsGcd (unsigned_abs a) (unsigned_abs b) g → IsGcdOf a b (pos g)
IsGcdOf_from_sizes a b g h = (omega (arith, lin), h)

pub IsGcdOf_gcd_of : (a b g : ℤ) → g ≡ pos (gcd_of (unsigned_abs a) (unsigned_abs b)) → IsGcdOf a b g
IsGcdOf_gcd_of a b g e = rw e (IsGcdOf_from_sizes a b _ (gcd_of_is (unsigned_abs a) (unsigned_abs b)))

-- what is left of two numbers without their greatest common divisor
pub coprime_left : (a b g : ℕ) → 0 < g → IsGcd a b g → IsGcd (a / g) (b / g) 1
coprime_left a b g lt h = (
  one-dvd (a / g),
  one-dvd (b / g),
  λ d p q. dvd_of_mul-dvd-mul_right d lt (rw one-mul (h.2 (d * g) (back a d h.0 p) (back b d h.1 q))),
)
  where
    back : (n d : ℕ) → g ∣ n → d ∣ n / g → d * g ∣ n
    back n d k p = subst (λ (m : ℕ). d * g ∣ m) (div-mul_cancel g k) (mul-dvd-mul_right d p g)

pub unsigned_abs-neg : (z : ℤ) → unsigned_abs (neg_ℤ z) ≡ unsigned_abs z
unsigned_abs-neg (pos zero) = refl
unsigned_abs-neg (pos (suc n)) = refl
unsigned_abs-neg (negsuc n) = refl

-- a common factor stands beside the greatest common divisor
pub gcd_of-times : (p a b : ℕ) → gcd_of (a * p) (b * p) ≡ gcd_of a b * p
gcd_of-times zero a b =
    let e : a * 0 ≡ 0 = omega arith in
    let f : b * 0 ≡ 0 = omega arith in
    rw (e, f, gcd_of-zero 0) (omega arith)
gcd_of-times (suc p) a b =
    sym (gcd_same (a * suc p) (b * suc p) (gcd_of a b * suc p) (
      mul-dvd-mul_right (gcd_of a b) h.0 (suc p),
      mul-dvd-mul_right (gcd_of a b) h.1 (suc p),
      λ d l r. dvd_trans d (k.2 d l r) within,
    ))
  where
    h : IsGcd a b (gcd_of a b)
    h = gcd_of_is a b

    k : IsGcd (a * suc p) (b * suc p) (gcd_of (a * suc p) (b * suc p))
    k = gcd_of_is (a * suc p) (b * suc p)

    times : gcd_of (a * suc p) (b * suc p) / suc p * suc p ≡ gcd_of (a * suc p) (b * suc p)
    times = div-mul_cancel (suc p) (k.2 (suc p) (dvd-mul_left (suc p) a) (dvd-mul_left (suc p) b))

    divides : (n : ℕ) → gcd_of (a * suc p) (b * suc p) ∣ n * suc p →
        gcd_of (a * suc p) (b * suc p) / suc p ∣ n
    divides n l = dvd_of_mul-dvd-mul_right _ (omega arith) (subst (λ (m : ℕ). m ∣ n * suc p) (sym times) l)

    within : gcd_of (a * suc p) (b * suc p) ∣ gcd_of a b * suc p
    within =
        subst (λ (m : ℕ). m ∣ gcd_of a b * suc p) times
        (mul-dvd-mul_right _ (h.2 _ (divides a k.0) (divides b k.1)) (suc p))
