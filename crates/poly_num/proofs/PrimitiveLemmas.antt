-- The greatest common divisor of a vector: it divides each entry, each common divisor divides it, it
-- is 0 exactly for zeros and 1 exactly for primitive vectors, and what is left without it is primitive.
use Rattle.std.proofs.Common.{◌≡◌, ◌≢◌, ℕ, zero, suc, ◌+◌, ◌*◌, ◌/◌, ◌<◌, ◌≤◌, arith, refl, ap, sym, subst, ◌∙◌, ℤ, pos, negsuc, neg_ℤ, ◌*ℤ◌, [], ◌∷◌, map, drop, get_or, length, add-one}
use Prim.Native.Nat.{◌∣◌}
use Rattle.std.specs.Prelude.{◌<ℤ◌, unsigned_abs, int_div}
use Rattle.std.proofs.lemmas.Int.{unsigned_abs-mul}
use Rattle.std.proofs.lemmas.Nat.Gcd.{dvd-zero, dvd_trans}
use Rattle.std.proofs.Math.Nat.{eq-zero_of_zero-dvd, eq-one_of_dvd-one, one-dvd, one-mul, mul-dvd-mul_right, dvd_of_mul-dvd-mul_right}
use Rattle.std.proofs.Math.Seq.{drop-cons}
use Rattle.std.proofs.Math.ListN.{drop_of_length-le}
use Rattle.poly_num.specs.Vectors.{Vector, scale, IsZero, DividesEach, IsPrimitive}
use Rattle.poly_num.specs.Divisors.{gcd_of, gcd_of_all, quotients, MakesPrimitive}
use Rattle.poly_num.proofs.Ring.{lin, mul_comm, mul_one}
use Rattle.poly_num.proofs.VectorLemmas.{scale-one, scale_cancel, zero-scale}
use Rattle.poly_num.proofs.Order.{positive_nonzero}
use Rattle.poly_num.proofs.DivisorLemmas.{gcd_of_is, gcd_of_assoc, gcd_of-times, unsigned_abs-neg, gcd_of-zero, zero-gcd_of, quotient_times, one-gcd_of}

pub zero_from_size : (z : ℤ) → unsigned_abs z ≡ 0 → z ≡ pos 0
zero_from_size (pos n) e = ap pos e
zero_from_size (negsuc n) e = absurd (omega arith)

pub DividesEach_from_dvd : (d e : ℕ) (v : Vector) → d ∣ e → DividesEach e v → DividesEach d v
DividesEach_from_dvd d e [] h k = tt
DividesEach_from_dvd d e (x ∷ v) h k = (dvd_trans d h k.0, DividesEach_from_dvd d e v h k.1)

pub gcd_of_all_divides : (v : Vector) → DividesEach (gcd_of_all v) v
gcd_of_all_divides [] = tt
gcd_of_all_divides (x ∷ v) =
    let h = gcd_of_is (unsigned_abs x) (gcd_of_all v) in
    (h.0, DividesEach_from_dvd _ (gcd_of_all v) v h.1 (gcd_of_all_divides v))

pub dvd-gcd_of_all : (d : ℕ) (v : Vector) → DividesEach d v → d ∣ gcd_of_all v
dvd-gcd_of_all d [] h = dvd-zero d
dvd-gcd_of_all d (x ∷ v) h = (gcd_of_is (unsigned_abs x) (gcd_of_all v)).2 d h.0 (dvd-gcd_of_all d v h.1)

pub gcd_of_all-zero : (v : Vector) → IsZero v → gcd_of_all v ≡ 0
gcd_of_all-zero [] z = refl
gcd_of_all-zero (x ∷ v) z = rw (z.0, gcd_of_all-zero v z.1) (zero-gcd_of 0)

pub zero_from_divisor : (v : Vector) → DividesEach 0 v → IsZero v
zero_from_divisor [] h = tt
zero_from_divisor (x ∷ v) h = (zero_from_size x (eq-zero_of_zero-dvd h.0), zero_from_divisor v h.1)

pub zero_from_gcd : (v : Vector) → gcd_of_all v ≡ 0 → IsZero v
zero_from_gcd v e = zero_from_divisor v (subst (λ (g : ℕ). DividesEach g v) e (gcd_of_all_divides v))

pub primitive_from_gcd : (v : Vector) → gcd_of_all v ≡ 1 → IsPrimitive v
primitive_from_gcd v e = (
  λ z. let f = gcd_of_all-zero v z in omega arith,
  λ d lt h. eq-one_of_dvd-one (subst (λ (g : ℕ). d ∣ g) e (dvd-gcd_of_all d v h)),
)

positive_gcd : (g : ℕ) → g ≢ 0 → 0 < g
positive_gcd zero n = absurd (n refl)
positive_gcd (suc g) n = omega arith

pub gcd_of_all_positive : (v : Vector) → (IsZero v → ⊥) → 0 < gcd_of_all v
gcd_of_all_positive v n = positive_gcd (gcd_of_all v) (λ e. n (zero_from_gcd v e))

pub gcd_from_primitive : (v : Vector) → IsPrimitive v → gcd_of_all v ≡ 1
gcd_from_primitive v p = p.1 (gcd_of_all v) (gcd_of_all_positive v p.0) (gcd_of_all_divides v)

pub DividesEach-scale : (d g : ℕ) (v : Vector) → DividesEach d v → DividesEach (d * g) (scale (pos g) v)
DividesEach-scale d g [] h = tt
DividesEach-scale d g (x ∷ v) h = (
  rw (mul_comm (pos g) x, unsigned_abs-mul x (pos g)) (mul-dvd-mul_right d h.0 g),
  DividesEach-scale d g v h.1,
)

pub scale-quotients : (g : ℕ) (v : Vector) → DividesEach g v → scale (pos g) (quotients v (pos g)) ≡ v
scale-quotients g [] h = refl
scale-quotients g (x ∷ v) h =
    let e = mul_comm (pos g) (int_div x (pos g)) ∙ quotient_times g x h.0 in
    let f = scale-quotients g v h.1 in
    cc

-- what is left of a vector without its greatest common divisor
pub primitive_left : (v w : Vector) (g : ℕ) → 0 < g → g ≡ gcd_of_all v → scale (pos g) w ≡ v → IsPrimitive w
primitive_left v w g lt e f = (
  λ z. let k = gcd_of_all-zero v (subst IsZero f (zero-scale (pos g) w z)) in omega arith,
  λ d p h.
      let k : d * g ∣ gcd_of_all v = dvd-gcd_of_all (d * g) v
      (subst (DividesEach (d * g)) f (DividesEach-scale d g w h)) in
      let l : d * g ∣ 1 * g = rw one-mul (subst (λ (n : ℕ). d * g ∣ n) (sym e) k) in
      eq-one_of_dvd-one (dvd_of_mul-dvd-mul_right d lt l),
)

pub quotients-zero : (v : Vector) (d : ℤ) → IsZero v → quotients v d ≡ v
quotients-zero [] d z = refl
quotients-zero (x ∷ v) d z =
    let e : int_div x d ≡ x = rw z.0 (zero_over d) in
    let f = quotients-zero v d z.1 in
    cc
  where
    none : (d : ℕ) → 0 / suc d ≡ 0
    none d = omega arith

    zero_over : (d : ℤ) → int_div (pos 0) d ≡ pos 0
    zero_over (pos zero) = refl
    zero_over (pos (suc d)) = ap pos (none d)
    zero_over (negsuc d) = ap (λ n. neg_ℤ (pos n)) (none d)

pub MakesPrimitive-quotients : (v : Vector) → MakesPrimitive v (quotients v (pos (gcd_of_all v)))
MakesPrimitive-quotients v = by (gcd_of_all v) refl
  where
    by : (g : ℕ) → g ≡ gcd_of_all v → MakesPrimitive v (quotients v (pos g))
    by zero e =
        let z = zero_from_gcd v (sym e) in let same = quotients-zero v (pos 0) z in
        record {
          zero_kept = λ _. same;
          primitive = λ n. absurd (n z);
          factor = (1, omega arith, sym same ∙ sym (scale-one (quotients v (pos 0))));
        }
    by (suc g) e =
        let f = scale-quotients (suc g) v (rw e (gcd_of_all_divides v)) in
        record {
          zero_kept = λ z. quotients-zero v (pos (suc g)) z;
          primitive = λ _. primitive_left v (quotients v (pos (suc g))) (suc g) (omega arith) e f;
          factor = (suc g, omega arith, sym f);
        }

-- one entry more of a running divisor g
pub gcd_along : (g i : ℕ) (v : Vector) (x : ℤ) → i < length v → x ≡ get_or v i x →
    gcd_of (gcd_of g (unsigned_abs x)) (gcd_of_all (drop (i + 1) v)) ≡ gcd_of g (gcd_of_all (drop i v))
gcd_along g i v x lt is =
    rw (add-one, drop-cons v i x, ← is)
    (gcd_of_assoc g (unsigned_abs x) (gcd_of_all (drop (suc i) v)))

-- where the greatest common divisor is not positive, there is nothing to divide
pub quotients_of_zeros : (v : Vector) (g : ℤ) → g ≡ pos (gcd_of_all v) → (pos 0 <ℤ g → ⊥) →
    v ≡ quotients v (pos (gcd_of_all v))
quotients_of_zeros v g e n = by (gcd_of_all v) refl
  where
    by : (k : ℕ) → k ≡ gcd_of_all v → v ≡ quotients v (pos k)
    by zero f = sym (quotients-zero v (pos 0) (zero_from_gcd v (sym f)))
    by (suc k) f = absurd (n (rw (e, ← f) (omega (arith, lin))))

pub gcd_at_end : (g i : ℕ) (v : Vector) → length v ≤ i → gcd_of g (gcd_of_all (drop i v)) ≡ g
gcd_at_end g i v le = rw (drop_of_length-le v le) (gcd_of-zero g)

pub gcd_of_all-scale : (p : ℕ) (v : Vector) → gcd_of_all (scale (pos p) v) ≡ gcd_of_all v * p
gcd_of_all-scale p [] = omega arith
gcd_of_all-scale p (x ∷ v) =
    let e : unsigned_abs (pos p *ℤ x) ≡ unsigned_abs x * p = rw (unsigned_abs-mul (pos p) x) (omega arith) in
    rw (e, gcd_of_all-scale p v) (gcd_of-times p (unsigned_abs x) (gcd_of_all v))

pub gcd_of_all-neg : (v : Vector) → gcd_of_all (map neg_ℤ v) ≡ gcd_of_all v
gcd_of_all-neg [] = refl
gcd_of_all-neg (x ∷ v) = rw (unsigned_abs-neg x, gcd_of_all-neg v) refl

pub primitive-neg : (v : Vector) → IsPrimitive v → IsPrimitive (map neg_ℤ v)
primitive-neg v h = primitive_from_gcd (map neg_ℤ v) (gcd_of_all-neg v ∙ gcd_from_primitive v h)

-- a positive direction has one primitive vector
pub same_primitive : (u v : Vector) (p q : ℕ) → IsPrimitive u → IsPrimitive v → 0 < p →
    scale (pos p) u ≡ scale (pos q) v → u ≡ v
same_primitive u v p q hu hv lt e =
    let eu = gcd_from_primitive u hu in let ev = gcd_from_primitive v hv in
    let both = sym (gcd_of_all-scale p u) ∙ ap gcd_of_all e ∙ gcd_of_all-scale q v in
    let same : p ≡ q = one_factor (gcd_of_all u) (gcd_of_all v) eu ev both in
    scale_cancel (pos p) u v (positive_nonzero (pos p) (omega (arith, lin)))
    (subst (λ (k : ℕ). scale (pos p) u ≡ scale (pos k) v) (sym same) e)
  where
    one_factor : (m n : ℕ) → m ≡ 1 → n ≡ 1 → m * p ≡ n * q → p ≡ q
    one_factor m n e f h = omega (arith, ap (λ k. k * p) e, ap (λ k. k * q) f)

-- once a running divisor is 1, it is the greatest common divisor
pub gcd_is_one : (g i : ℕ) (v : Vector) (x : ℤ) → i < length v → x ≡ get_or v i x →
    gcd_of g (gcd_of_all (drop i v)) ≡ gcd_of_all v → gcd_of g (unsigned_abs x) ≡ 1 → gcd_of_all v ≡ 1
gcd_is_one g i v x lt is rest one =
    sym rest ∙ sym (gcd_along g i v x lt is) ∙ ap (λ d. gcd_of d (gcd_of_all (drop (i + 1) v))) one
    ∙ one-gcd_of (gcd_of_all (drop (i + 1) v))

over_one : (x : ℤ) → int_div x (pos 1) ≡ x
over_one x = sym (mul_one (int_div x (pos 1))) ∙ quotient_times 1 x (one-dvd (unsigned_abs x))

pub quotients-one : (v : Vector) → quotients v (pos 1) ≡ v
quotients-one [] = refl
quotients-one (x ∷ v) =
    let e = over_one x in
    let f = quotients-one v in
    cc
