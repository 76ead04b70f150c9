-- Greatest common divisors taken number by number, and exact quotients.
use Rattle.std.proofs.Common.{◌≡◌, ◌≢◌, ℕ, zero, suc, ◌*◌, ◌<◌, ◌≤◌, ℤ, pos, negsuc, ◌*ℤ◌, arith, sym, ap, subst, ◌∙◌, mul_comm}
use Prim.Native.Nat.{◌∣◌}
use Rattle.std.specs.Prelude.{◌<ℤ◌, unsigned_abs, int_div}
use Rattle.std.proofs.lemmas.Int.{ints, unsigned_abs-mul}
use Rattle.std.proofs.lemmas.Nat.Gcd.{dvd_refl}
use Rattle.std.proofs.Math.Nat.{eq-zero_of_zero-dvd}
use Rattle.poly_num.specs.Divisors.{gcd_of, IsGcdOf}
use Rattle.poly_num.proofs.Ring.{lin}
use Rattle.poly_num.proofs.Order.{mul_nonzero, positive_nonzero}
use Rattle.poly_num.proofs.DivisorLemmas.{gcd_of_is, gcd_same, gcd_of-times, quotient_times}
use Rattle.poly_num.proofs.PrimitiveLemmas.{zero_from_size}
use Rattle.poly_num.proofs.FractionLemmas.{size_positive}
use Rattle.columns.specs.Steps.{IsSignOf}

-- what divides k times a and k times b divides k times their greatest common divisor
pub divides_gcd : (a b g : ℤ) → IsGcdOf a b g → (d k : ℕ) →
    d ∣ k * unsigned_abs a → d ∣ k * unsigned_abs b → d ∣ k * unsigned_abs g
divides_gcd a b g h d k p q =
    let m = unsigned_abs a in
    let n = unsigned_abs b in
    let same : unsigned_abs g ≡ gcd_of m n = gcd_same m n (unsigned_abs g) h.1 in
    let l : d ∣ gcd_of (m * k) (n * k) =
    (gcd_of_is (m * k) (n * k)).2 d
    (subst (λ (z : ℕ). d ∣ z) (mul_comm k m) p) (subst (λ (z : ℕ). d ∣ z) (mul_comm k n) q) in
    subst (λ (z : ℕ). d ∣ z)
    (gcd_of-times k m n ∙ mul_comm (gcd_of m n) k ∙ ap (λ (z : ℕ). k * z) (sym same)) l

pub positive_gcd : (a b g : ℤ) → pos 0 <ℤ a → IsGcdOf a b g → pos 0 <ℤ g
positive_gcd a b (pos zero) lt h =
    let e = zero_from_size a (eq-zero_of_zero-dvd h.1.0) in absurd (omega (arith, ints))
positive_gcd a b (pos (suc g)) lt h = omega (arith, ints)
positive_gcd a b (negsuc g) lt h = absurd (let l = h.0 in omega (arith, ints))

-- a divisor that divides is the greatest common one
pub gcd_divides : (g n : ℤ) → pos 0 <ℤ g → unsigned_abs g ∣ unsigned_abs n → IsGcdOf g n g
gcd_divides g n lt d = (omega (arith, lin), (dvd_refl (unsigned_abs g), d, λ k p q. p))

-- the quotient times the divisor
pub quotient_exact : (h a : ℤ) → pos 0 <ℤ h → unsigned_abs h ∣ unsigned_abs a → int_div a h *ℤ h ≡ a
quotient_exact (pos h) a lt d = quotient_times h a d
quotient_exact (negsuc h) a lt d = absurd (omega (arith, ints))

pub at_least : (n m : ℕ) → 0 < m → n ≤ n * m
at_least n zero lt = absurd (omega arith)
at_least n (suc m) lt = omega arith

-- a quotient is not larger
pub quotient_size : (q h a : ℤ) → pos 0 <ℤ h → q *ℤ h ≡ a → unsigned_abs q ≤ unsigned_abs a
quotient_size q h a lt e =
    let l = at_least (unsigned_abs q) (unsigned_abs h) (size_positive h (positive_nonzero h lt)) in
    let f : unsigned_abs a ≡ unsigned_abs q * unsigned_abs h = ap unsigned_abs (sym e) ∙ unsigned_abs-mul q h in
    omega arith

pub turned_size : (t z : ℤ) → unsigned_abs t ≡ 1 → unsigned_abs (t *ℤ z) ≡ unsigned_abs z
turned_size t z e = unsigned_abs-mul t z ∙ rw e (omega arith)

-- the sign times the common factor
pub factor_nonzero : (v t h : ℤ) → v ≢ pos 0 → IsSignOf v t → pos 0 <ℤ h → t *ℤ h ≢ pos 0
factor_nonzero v t h nonzero sign lt =
    mul_nonzero t h (λ e. let f = sym sign.size ∙ ap unsigned_abs e in absurd (omega arith)) (positive_nonzero h lt)

pub gcd_turned : (a b g : ℤ) → IsGcdOf a b g → IsGcdOf b a g
gcd_turned a b g is = (is.0, (is.1.1, is.1.0, λ k p q. is.1.2 k q p))
