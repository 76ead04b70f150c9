-- Signs of whole numbers and of their opposites; a number is 0 or is not, and then its square is positive.
use Rattle.std.proofs.Common.{◌≡◌, ◌≢◌, ◌⊎◌, inl, inr, ℤ, pos, ◌*ℤ◌, neg_ℤ, ◌≤ℤ◌, ◌<ℤ◌, subst, arith}
use Rattle.std.proofs.lemmas.Int.{ints, by_lt_z}
use Rattle.poly_num.proofs.Ring.{lin, neg-mul-neg}
use Rattle.poly_num.proofs.Order.{positive_product, positive_nonzero}

pub one_is_not_zero : pos 1 ≢ pos 0
one_is_not_zero e = cc

pub nonnegative_zero : (x : ℤ) → x ≡ pos 0 → pos 0 ≤ℤ x
nonnegative_zero x e = omega (arith, lin)

pub nonnegative_positive : (x : ℤ) → pos 0 <ℤ x → pos 0 ≤ℤ x
nonnegative_positive x h = omega (arith, lin)

pub at_least_one : (x : ℤ) → pos 0 <ℤ x → pos 1 ≤ℤ x
at_least_one x h = omega (arith, ints)

pub not_both : (x : ℤ) → x <ℤ pos 0 → pos 0 ≤ℤ x → ⊥
not_both x h k = omega (arith, lin)

pub negative_nonzero : (x : ℤ) → x <ℤ pos 0 → x ≢ pos 0
negative_nonzero x h e = omega (arith, lin)

-- ---- the opposite
pub minus_positive : (x : ℤ) → x <ℤ pos 0 → pos 0 <ℤ neg_ℤ x
minus_positive x h = omega (arith, lin)

pub minus_negative : (x : ℤ) → pos 0 <ℤ neg_ℤ x → x <ℤ pos 0
minus_negative x h = omega (arith, lin)

pub minus_zero : (x : ℤ) → neg_ℤ x ≡ pos 0 → x ≡ pos 0
minus_zero x e = omega (arith, lin)

-- ---- zero or not
pub zero_or : (x : ℤ) → (x ≡ pos 0) ⊎ (x ≢ pos 0)
zero_or x =
    by_lt_z (pos 0) x (λ h. inr (positive_nonzero x h))
    (λ h. by_lt_z x (pos 0) (λ k. inr (negative_nonzero x k)) (λ k. inl (between x h k)))
  where
    between : (x : ℤ) → x ≤ℤ pos 0 → pos 0 ≤ℤ x → x ≡ pos 0
    between x h k = omega (arith, lin)

pub square_positive : (x : ℤ) → x ≢ pos 0 → pos 0 <ℤ (x *ℤ x)
square_positive x n =
    by_lt_z (pos 0) x (λ h. positive_product x x h h)
    (λ h. by_lt_z x (pos 0) (λ k. subst (λ t. pos 0 <ℤ t) (neg-mul-neg x x)
    (positive_product (neg_ℤ x) (neg_ℤ x) (minus_positive x k) (minus_positive x k)))
    (λ k. absurd (n (omega (arith, lin)))))
