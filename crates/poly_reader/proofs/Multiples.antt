-- Euclid's lemma, and the least common multiple: both numbers divide it, and it divides each common multiple.
use Rattle.std.proofs.Common.{◌≡◌, ◌<◌, ◌≤◌, ◌*◌, ◌/◌, ◌%◌, ℕ, zero, suc, sym, ap, subst, ◌∙◌, arith}
use Prim.Native.Nat.{◌∣◌}
use Rattle.std.proofs.lemmas.Nat.Gcd.{dvd_refl, dvd_of_mod-eq-zero}
use Rattle.std.proofs.Math.Nat.{dvd-mul_left, one-mul, mul_assoc, mul_comm, div-mul_cancel, mul-dvd-mul_right, dvd_of_mul-dvd-mul_right}
use Rattle.poly_num.specs.Divisors.{gcd_of}
use Rattle.poly_num.proofs.DivisorLemmas.{gcd_of_is, gcd_of-times, gcd_same, gcd_positive, coprime_left, left_positive}
use Rattle.poly_reader.specs.Scaling.{lcm_of}

-- what divides a product and shares only 1 with the first factor divides the second
pub dvd_from_coprime : (a b c : ℕ) → gcd_of a b ≡ 1 → a ∣ b * c → a ∣ c
dvd_from_coprime a b c one h =
    let both = (gcd_of_is (a * c) (b * c)).2 a (subst (λ (n : ℕ). a ∣ n) (mul_comm c a) (dvd-mul_left a c)) h in
    let e : gcd_of (a * c) (b * c) ≡ c = gcd_of-times c a b ∙ ap (λ (n : ℕ). n * c) one ∙ one-mul c in
    subst (λ (n : ℕ). a ∣ n) e both

-- the least common multiple in the other order
lcm_turned : (a b : ℕ) → lcm_of a b ≡ b / gcd_of a b * a
unfolding lcm_of
lcm_turned a b =
    let h = gcd_of_is a b in
    let e : a / gcd_of a b * gcd_of a b ≡ a = div-mul_cancel (gcd_of a b) h.0 in
    let f : b / gcd_of a b * gcd_of a b ≡ b = div-mul_cancel (gcd_of a b) h.1 in
    by (a / gcd_of a b) (b / gcd_of a b) (gcd_of a b) e f
  where
    by : (x y g : ℕ) → x * g ≡ a → y * g ≡ b → x * b ≡ y * a
    by x y g e f =
        ap (λ (n : ℕ). x * n) (sym f) ∙ sym (mul_assoc x y g) ∙ ap (λ (n : ℕ). n * g) (mul_comm x y) ∙ mul_assoc y x g
        ∙ ap (λ (n : ℕ). y * n) e

pub dvd-lcm_right : (a b : ℕ) → b ∣ lcm_of a b
unfolding lcm_of
dvd-lcm_right a b = dvd-mul_left b (a / gcd_of a b)

pub dvd-lcm_left : (a b : ℕ) → a ∣ lcm_of a b
dvd-lcm_left a b = subst (λ (n : ℕ). a ∣ n) (sym (lcm_turned a b)) (dvd-mul_left a (b / gcd_of a b))

pub lcm-dvd : (a b m : ℕ) → 0 < b → a ∣ m → b ∣ m → lcm_of a b ∣ m
unfolding lcm_of
lcm-dvd a b m lt h k =
    let g = gcd_of_is a b in
    let positive = gcd_positive a b (gcd_of a b) lt g in
    by (a / gcd_of a b) (b / gcd_of a b) (gcd_of a b) (m / b) positive
    (div-mul_cancel (gcd_of a b) g.0) (div-mul_cancel (gcd_of a b) g.1) (div-mul_cancel b k)
    (sym (gcd_same (a / gcd_of a b) (b / gcd_of a b) 1 (coprime_left a b (gcd_of a b) positive g)))
  where
    by : (x y g n : ℕ) → 0 < g → x * g ≡ a → y * g ≡ b → n * b ≡ m → gcd_of x y ≡ 1 → x * b ∣ m
    by x y g n positive e f l one =
        let m_is : m ≡ (y * n) * g =
        sym l ∙ ap (λ (z : ℕ). n * z) (sym f) ∙ sym (mul_assoc n y g) ∙ ap (λ (z : ℕ). z * g) (mul_comm n y) in
        let within : x * g ∣ (y * n) * g = subst (λ (z : ℕ). x * g ∣ z) m_is (subst (λ (z : ℕ). z ∣ m) (sym e) h) in
        let left : x ∣ n = dvd_from_coprime x y n one (dvd_of_mul-dvd-mul_right x positive within) in
        subst (λ (z : ℕ). x * b ∣ z) l (mul-dvd-mul_right x left b)

-- what is a multiple already
pub lcm_of_multiple : (a b : ℕ) → a % b ≡ 0 → a ≡ lcm_of a b
unfolding lcm_of
lcm_of_multiple a b e =
    let h : b ∣ a = dvd_of_mod-eq-zero b e in
    let g : gcd_of a b ≡ b = sym (gcd_same a b b (h, dvd_refl b, λ d p q. q)) in
    sym (rw g (div-mul_cancel b h))

times_at_least : (a k : ℕ) → 0 < k → a ≤ k * a
times_at_least a zero lt = absurd (omega arith)
times_at_least a (suc k) lt = omega arith

pub lcm_at_least : (a b : ℕ) → 0 < b → a ≤ lcm_of a b
lcm_at_least a b lt =
    rw (lcm_turned a b) (times_at_least a (b / gcd_of a b) (left_positive b (gcd_of a b) lt (gcd_of_is a b).1))
