-- The lowest terms of a fraction are reduced, and have its ratio.
use Rattle.std.proofs.Common.{◌≡◌, ◌≢◌, ℕ, ◌/◌, suc, zero, ◌<◌, ℤ, pos, negsuc, neg_ℤ, ◌*ℤ◌, [], ◌∷◌, arith, ap, sym, subst, ◌∙◌, refl}
use Rattle.std.specs.Prelude.{◌<ℤ◌, int_div, unsigned_abs}
use Rattle.std.specs.Int.{IsGcd}
use Rattle.std.proofs.Math.Nat.{div-mul_cancel, div-one, one-dvd}
use Rattle.poly_num.specs.Divisors.{gcd_of}
use Rattle.poly_num.specs.Fractions.{Fraction, IsReduced, IsRatio, turned_by, lowest}
use Rattle.poly_num.proofs.Ring.{expand, lin, mul_comm, mul_one}
use Rattle.poly_num.proofs.Order.{cancel, positive_nonzero}
use Rattle.poly_num.specs.Vectors.{scale, IsPrimitive}
use Rattle.poly_num.proofs.PrimitiveLemmas.{primitive_from_gcd, same_primitive}
use Rattle.poly_num.proofs.DivisorLemmas.{gcd_of_is, gcd_of-zero, gcd_same, gcd_positive, left_positive, coprime_left, quotient_times, unsigned_abs-neg}

pub unsigned_abs-turned_by : (b a : ℤ) → unsigned_abs (turned_by b a) ≡ unsigned_abs a
unsigned_abs-turned_by (pos n) a = refl
unsigned_abs-turned_by (negsuc n) a = unsigned_abs-neg a

pub unsigned_abs-quotient : (z : ℤ) (g : ℕ) → unsigned_abs (int_div z (pos g)) ≡ unsigned_abs z / g
unsigned_abs-quotient (pos n) g = refl
unsigned_abs-quotient (negsuc n) g = unsigned_abs-neg (pos (suc n / g))

pub size_positive : (z : ℤ) → z ≢ pos 0 → 0 < unsigned_abs z
size_positive (pos zero) n = absurd (n refl)
size_positive (pos (suc k)) n = omega arith
size_positive (negsuc k) n = omega arith

divisor_positive : (a b : ℤ) → b ≢ pos 0 → 0 < gcd_of (unsigned_abs a) (unsigned_abs b)
divisor_positive a b n =
    gcd_positive (unsigned_abs a) (unsigned_abs b) _ (size_positive b n)
    (gcd_of_is (unsigned_abs a) (unsigned_abs b))

pub lowest_reduced : (a b : ℤ) → b ≢ pos 0 → IsReduced (lowest a b)
unfolding lowest
lowest_reduced a b n =
    let g = gcd_of (unsigned_abs a) (unsigned_abs b) in
    let h = gcd_of_is (unsigned_abs a) (unsigned_abs b) in
    let left = left_positive (unsigned_abs b) g (size_positive b n) h.1 in
    record {
      positive = omega (arith, lin);
      coprime =
          rw (unsigned_abs-quotient (turned_by b a) g, unsigned_abs-turned_by b a)
          (coprime_left (unsigned_abs a) (unsigned_abs b) g (divisor_positive a b n) h);
    }

turned_ratio : (a b : ℤ) → a *ℤ pos (unsigned_abs b) ≡ turned_by b a *ℤ b
turned_ratio a (pos n) = refl
turned_ratio a (negsuc n) = minus a (pos (suc n))
  where
    minus : (a b : ℤ) → a *ℤ b ≡ neg_ℤ a *ℤ neg_ℤ b
    minus a b = simp expand

-- t b = a c, where t is n g and c is d g
ratio_left : (a b c t n d g : ℤ) → g ≢ pos 0 → a *ℤ c ≡ t *ℤ b → n *ℤ g ≡ t → d *ℤ g ≡ c →
    n *ℤ b ≡ a *ℤ d
ratio_left a b c t n d g nz e f h = cancel g (n *ℤ b) (a *ℤ d) nz (by (rw (← f, ← h) at e))
  where
    by : a *ℤ (d *ℤ g) ≡ n *ℤ g *ℤ b → g *ℤ (n *ℤ b) ≡ g *ℤ (a *ℤ d)
    by k = let m = simp expand at k in simp expand (sym m)

pub lowest_ratio : (a b : ℤ) → b ≢ pos 0 → IsRatio (lowest a b) a b
unfolding lowest
lowest_ratio a b n =
    let g = gcd_of (unsigned_abs a) (unsigned_abs b) in
    let h = gcd_of_is (unsigned_abs a) (unsigned_abs b) in
    let lt = divisor_positive a b n in
    ratio_left a b (pos (unsigned_abs b)) (turned_by b a)
    (int_div (turned_by b a) (pos g)) (pos (unsigned_abs b / g)) (pos g)
    (positive_nonzero (pos g) (omega (arith, lin)))
    (turned_ratio a b)
    (quotient_times g (turned_by b a) (rw (unsigned_abs-turned_by b a) h.0))
    (ap pos (div-mul_cancel g h.1))

-- both signs turned, for a negative b
pub lowest-neg : (a b : ℤ) → pos 0 <ℤ neg_ℤ b → lowest (neg_ℤ a) (neg_ℤ b) ≡ lowest a b
unfolding lowest
lowest-neg a (pos n) lt = absurd (omega (arith, lin))
lowest-neg a (negsuc n) lt = rw (unsigned_abs-neg a) refl

pub ratio_of_lowest : (f : Fraction) (a b : ℤ) → pos 0 <ℤ b → f ≡ lowest a b → IsRatio f a b
ratio_of_lowest f a b lt e =
    subst (λ (g : Fraction). IsRatio g a b) (sym e) (lowest_ratio a b (positive_nonzero b lt))

pub ratio_of_turned : (f : Fraction) (a b : ℤ) → pos 0 <ℤ neg_ℤ b →
    f ≡ lowest (neg_ℤ a) (neg_ℤ b) → IsRatio f a b
ratio_of_turned f a b lt e =
    subst (λ (g : Fraction). IsRatio g a b) (sym (e ∙ lowest-neg a b lt))
    (lowest_ratio a b (λ z. omega (arith, lin)))

-- for a positive denominator, by the quotients alone
pub lowest_from_quotients : (a b n d g : ℤ) → pos 0 <ℤ b → g ≡ pos (gcd_of (unsigned_abs a) (unsigned_abs b)) →
    n ≡ int_div a g → d ≡ int_div b g → record { num = n; den = d } ≡ lowest a b
unfolding lowest
lowest_from_quotients a (pos k) n d g lt e f h = rw (f, h, e) refl
lowest_from_quotients a (negsuc k) n d g lt e f h = absurd (omega (arith, lin))

pub divisor_of_positive : (a b g : ℤ) → pos 0 <ℤ b →
    g ≡ pos (gcd_of (unsigned_abs a) (unsigned_abs b)) → pos 0 <ℤ g
divisor_of_positive a b g lt e =
    let h = divisor_positive a b (positive_nonzero b lt) in
    rw e (omega (arith, lin))

one_out : (z : ℤ) → int_div z (pos 1) ≡ z
one_out z = sym (mul_one (int_div z (pos 1))) ∙ quotient_times 1 z (one-dvd (unsigned_abs z))

-- what is reduced is its own lowest terms
pub lowest_of_coprime : (a b : ℤ) → pos 0 <ℤ b → IsGcd (unsigned_abs a) (unsigned_abs b) 1 →
    lowest a b ≡ record { num = a; den = b }
unfolding lowest
lowest_of_coprime a (pos k) lt h = rw (← gcd_same (unsigned_abs a) k 1 h, one_out a, div-one) refl
lowest_of_coprime a (negsuc k) lt h = absurd (omega (arith, lin))

pub lowest_of_reduced : (f : Fraction) → IsReduced f → lowest f.num f.den ≡ f
lowest_of_reduced f h = lowest_of_coprime f.num f.den h.positive h.coprime

pair_primitive : (n d : ℤ) → IsGcd (unsigned_abs n) (unsigned_abs d) 1 → IsPrimitive (n ∷ d ∷ [])
pair_primitive n d h =
    primitive_from_gcd (n ∷ d ∷ [])
    (ap (gcd_of (unsigned_abs n)) (gcd_of-zero (unsigned_abs d))
    ∙ sym (gcd_same (unsigned_abs n) (unsigned_abs d) 1 h))

same_parts : (n m : ℤ) (c d : ℕ) → 0 < d → IsGcd (unsigned_abs n) c 1 → IsGcd (unsigned_abs m) d 1 →
    n *ℤ pos d ≡ m *ℤ pos c → (n ≡ m) × (c ≡ d)
same_parts n m c d lt h k e =
    let first : pos d *ℤ n ≡ pos c *ℤ m = mul_comm (pos d) n ∙ e ∙ mul_comm m (pos c) in
    let second : pos d *ℤ pos c ≡ pos c *ℤ pos d = mul_comm (pos d) (pos c) in
    let both : scale (pos d) (n ∷ pos c ∷ []) ≡ scale (pos c) (m ∷ pos d ∷ []) = cc in
    let same = same_primitive (n ∷ pos c ∷ []) (m ∷ pos d ∷ []) d c
    (pair_primitive n (pos c) h) (pair_primitive m (pos d) k) lt both in
    (cc, cc)

abbrev of_parts : ℤ → ℤ → Fraction
of_parts n d = record { num = n; den = d }

-- reduced fractions of one ratio are one
pub same_reduced : (f g : Fraction) → IsReduced f → IsReduced g → IsRatio f g.num g.den → f ≡ g
same_reduced f g hf hg e = by f.num g.num f.den g.den hf.positive hg.positive hf.coprime hg.coprime e
  where
    by : (n m x y : ℤ) → pos 0 <ℤ x → pos 0 <ℤ y → IsGcd (unsigned_abs n) (unsigned_abs x) 1 →
        IsGcd (unsigned_abs m) (unsigned_abs y) 1 → n *ℤ y ≡ m *ℤ x →
        of_parts n x ≡ of_parts m y
    by n m (negsuc c) y p q h k e = absurd (omega (arith, lin))
    by n m (pos c) (negsuc d) p q h k e = absurd (omega (arith, lin))
    by n m (pos c) (pos d) p q h k e =
        let same = same_parts n m c d (omega (arith, lin)) h k e in
        rw (same.0, same.1) refl
