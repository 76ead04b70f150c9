-- The primitive vectors along a vector: there is one in each of the two directions, and no other.
use Rattle.std.proofs.Common.{◌≡◌, ◌≢◌, ◌⊎◌, inl, inr, ℕ, zero, suc, ◌<◌, ℤ, pos, negsuc, ◌*ℤ◌, neg_ℤ, ◌<ℤ◌, ◌*◌, [], ◌∷◌, map, refl, ap, subst, sym, ◌∙◌, arith}
use Rattle.std.proofs.lemmas.Int.{ints}
use Prim.Native.Nat.{◌∣◌}
use Rattle.std.specs.Prelude.{unsigned_abs}
use Rattle.std.specs.List.{AllByRecursion}
use Rattle.std.proofs.lemmas.Int.{unsigned_abs-mul}
use Rattle.std.proofs.Math.Nat.{one-mul, dvd-mul_right}
use Rattle.poly_num.specs.Vectors.{Vector, scale, IsZero, DividesEach, IsPrimitive, IsMultipleOf}
use Rattle.poly_num.specs.Divisors.{gcd_of_all, quotients}
use Rattle.poly_num.proofs.Ring.{lin, mul-neg, neg-mul}
use Rattle.poly_num.proofs.PrimitiveLemmas.{dvd-gcd_of_all, gcd_of_all-scale, gcd_from_primitive, MakesPrimitive-quotients, primitive-neg, same_primitive}

-- what is left of a vector other than zero without its greatest common divisor
pub record PrimitiveOf (z : Vector) : Type 0 where
  pub y : Vector
  pub primitive : IsPrimitive y
  pub g : ℕ
  pub positive : 0 < g
  pub times : scale (pos g) y ≡ z

pub primitive_of : (z : Vector) → (IsZero z → ⊥) → PrimitiveOf z
primitive_of z nz =
    let m = MakesPrimitive-quotients z in
    record {
      y = quotients z (pos (gcd_of_all z));
      primitive = m.primitive nz;
      g = m.factor.0;
      positive = m.factor.1;
      times = sym m.factor.2;
    }

-- positive multiples that are equal
pub primitive_same : (p q : ℤ) (u v : Vector) → IsPrimitive u → IsPrimitive v → pos 0 <ℤ p → pos 0 <ℤ q →
    scale p u ≡ scale q v → u ≡ v
primitive_same (pos p) (pos q) u v a b hp hq e = same_primitive u v p q a b (omega (arith, ints)) e
primitive_same (pos p) (negsuc q) u v a b hp hq e = absurd (omega (arith, ints))
primitive_same (negsuc p) q u v a b hp hq e = absurd (omega (arith, ints))

-- ---- divisors
-- what divides k times each entry of a primitive vector divides k
pub dvd_from_primitive : (y : Vector) → IsPrimitive y → (k m : ℕ) →
    AllByRecursion (λ x. m ∣ k * unsigned_abs x) y → m ∣ k
dvd_from_primitive y p k m h =
    let e : gcd_of_all (scale (pos k) y) ≡ k =
    gcd_of_all-scale k y ∙ ap (λ g. g * k) (gcd_from_primitive y p) ∙ one-mul k in
    subst (λ n. m ∣ n) e (dvd-gcd_of_all m (scale (pos k) y) (divides y h))
  where
    divides : (v : Vector) → AllByRecursion (λ x. m ∣ k * unsigned_abs x) v → DividesEach m (scale (pos k) v)
    divides [] h = tt
    divides (x ∷ v) h = (subst (λ n. m ∣ n) (sym (unsigned_abs-mul (pos k) x)) h.0, divides v h.1)

-- p z = q y where y is primitive: p divides q
pub factor_divides : (p q : ℤ) (y z : Vector) → IsPrimitive y → scale p z ≡ scale q y → unsigned_abs p ∣ unsigned_abs q
factor_divides p q y z prim e = dvd_from_primitive y prim (unsigned_abs q) (unsigned_abs p) (entries y z e)
  where
    entries : (y z : Vector) → scale p z ≡ scale q y →
        AllByRecursion (λ x. unsigned_abs p ∣ unsigned_abs q * unsigned_abs x) y
    entries [] z e = tt
    entries (x ∷ y) [] e = absurd (cc)
    entries (x ∷ y) (u ∷ z) e =
        let first : p *ℤ u ≡ q *ℤ x = cc in
        let rest : scale p z ≡ scale q y = cc in
        let size = sym (unsigned_abs-mul p u) ∙ ap unsigned_abs first ∙ unsigned_abs-mul q x in
        (subst (λ n. unsigned_abs p ∣ n) size (dvd-mul_right (unsigned_abs p) (unsigned_abs u)), entries y z rest)

-- ---- up to sign
-- p z = - q y as p z = q (- y)
scale-opposite : (q : ℤ) (y : Vector) → scale (neg_ℤ q) y ≡ scale q (map neg_ℤ y)
scale-opposite q [] = refl
scale-opposite q (x ∷ y) =
    let e = neg-mul q x ∙ sym (mul-neg q x) in
    let f = scale-opposite q y in
    cc

both_turned : (p q : ℤ) (z y : Vector) → scale (neg_ℤ p) z ≡ scale (neg_ℤ q) y → scale p z ≡ scale q y
both_turned p q [] [] e = refl
both_turned p q [] (x ∷ y) e = absurd (cc)
both_turned p q (x ∷ z) [] e = absurd (cc)
both_turned p q (x ∷ z) (w ∷ y) e =
    let h : neg_ℤ p *ℤ x ≡ neg_ℤ q *ℤ w = cc in
    let t : scale (neg_ℤ p) z ≡ scale (neg_ℤ q) y = cc in
    let k : p *ℤ x ≡ q *ℤ w = head p x q w h in
    let r = both_turned p q z y t in
    cc
  where
    head : (p x q w : ℤ) → neg_ℤ p *ℤ x ≡ neg_ℤ q *ℤ w → p *ℤ x ≡ q *ℤ w
    head p x q w h = omega (arith, lin, neg-mul p x, neg-mul q w)

pub primitive_up_to_sign : (y z : Vector) → IsPrimitive y → IsPrimitive z → IsMultipleOf y z →
    (z ≡ y) ⊎ (z ≡ map neg_ℤ y)
primitive_up_to_sign y z a b (p, q, np, e) = by p q np e
  where
    opposite : (p q : ℕ) → 0 < p → scale (pos p) z ≡ scale (pos q) (map neg_ℤ y) → z ≡ map neg_ℤ y
    opposite p q lt e = same_primitive z (map neg_ℤ y) p q b (primitive-neg y a) lt e

    by : (p q : ℤ) → p ≢ pos 0 → scale p z ≡ scale q y → (z ≡ y) ⊎ (z ≡ map neg_ℤ y)
    by (pos zero) q np e = absurd (np refl)
    by (pos (suc p)) (pos q) np e = inl (same_primitive z y (suc p) q b a (omega arith) e)
    by (pos (suc p)) (negsuc q) np e = inr (opposite (suc p) (suc q) (omega arith) (e ∙ scale-opposite (pos (suc q)) y))
    by (negsuc p) (pos zero) np e =
        inl (same_primitive z y (suc p) 0 b a (omega arith) (both_turned (pos (suc p)) (pos 0) z y e))
    by (negsuc p) (pos (suc q)) np e =
        let f = both_turned (pos (suc p)) (negsuc q) z y e ∙ scale-opposite (pos (suc q)) y in
        inr (opposite (suc p) (suc q) (omega arith) f)
    by (negsuc p) (negsuc q) np e =
        inl (same_primitive z y (suc p) (suc q) b a (omega arith) (both_turned (pos (suc p)) (pos (suc q)) z y e))
