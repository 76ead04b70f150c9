-- The steps of a comparison of fractions: whole parts that differ decide, equal ones leave the
-- remainders, fractions turned upside down change their order, and numerators decide where one is 0.
use Rattle.std.proofs.Common.{◌≡◌, ℕ, ◌+◌, ◌*◌, ◌/◌, ◌%◌, ◌<◌, ◌≤◌, arith, Ordering, ap, ◌⊎◌, inl, inr}
use Rattle.std.specs.Ordering.{MatchOrdering}
use Rattle.std.specs.declared.cmp.Ordering.TheVariants.{Less, Equal, Greater}
use Rattle.std.proofs.lemmas.Nat.{div-add-mod'}
use Rattle.std.proofs.Math.Nat.{mul-le-mul_right, mul-le-mul_left}
use Rattle.poly_num.specs.Numbers.{Orders}

-- a/b is below x + 1, and c/d is at least y
apart : (a b c d x y : ℕ) → 0 < d → a < b * (x + 1) → x < y → d * y ≤ c → a * d < c * b
apart a b c d x y pd h l k =
    omega (arith, mul-le-mul_right d h, mul-le-mul_left (b * d) l, mul-le-mul_left b k)

pub quotients_differ : (a b c d : ℕ) → 0 < b → 0 < d → a / b < c / d → a * d < c * b
quotients_differ a b c d pb pd l = apart a b c d (a / b) (c / d) pd (omega arith) l (omega arith)

pub same_quotient : (a b c d : ℕ) (r : Ordering) → a / b ≡ c / d →
    Orders r (a % b) b (c % d) d → Orders r a b c d
same_quotient a b c d r e h =
    by_order r h
    (ap (λ n. n * d) (div-add-mod' a b))
    (ap (λ n. n * b) (div-add-mod' c d))
    (ap (λ n. n * (b * d)) e)
  where
    by_order : (r : Ordering) → Orders r (a % b) b (c % d) d → (a / b * b + a % b) * d ≡ a * d →
        (c / d * d + c % d) * b ≡ c * b → a / b * (b * d) ≡ c / d * (b * d) → Orders r a b c d
    by_order Less h f g k = omega arith
    by_order Equal h f g k = omega arith
    by_order Greater h f g k = omega arith

pub turned : (a b c d : ℕ) (r : Ordering) → Orders r d c b a → Orders r a b c d
turned a b c d Less h = omega arith
turned a b c d Equal h = omega arith
turned a b c d Greater h = omega arith

pub with_zero : (a b c d : ℕ) (r : Ordering) → 0 < b → 0 < d → (a ≡ 0) ⊎ (c ≡ 0) →
    MatchOrdering r (a < c) (a ≡ c) (c < a) → Orders r a b c d
with_zero a b c d Less pb pd (inl e) h = omega (arith, ap (λ n. n * d) e, mul-le-mul_left c pb)
with_zero a b c d Less pb pd (inr e) h = absurd (omega arith)
with_zero a b c d Equal pb pd (inl e) h =
    let f : c ≡ 0 = omega arith in omega (arith, ap (λ n. n * d) e, ap (λ n. n * b) f)
with_zero a b c d Equal pb pd (inr e) h =
    let f : a ≡ 0 = omega arith in omega (arith, ap (λ n. n * d) f, ap (λ n. n * b) e)
with_zero a b c d Greater pb pd (inl e) h = absurd (omega arith)
with_zero a b c d Greater pb pd (inr e) h = omega (arith, ap (λ n. n * b) e, mul-le-mul_left a pd)
