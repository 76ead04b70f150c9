-- The quotient of a p - c b by way of what p and b are over the divisor's odd part, in numbers of one machine width.
use Rattle.std.proofs.Common.{◌≡◌, ℤ, ◌*ℤ◌, ◌-ℤ◌, neg_ℤ, ap, sym, ◌∙◌}
use Rattle.std.specs.Prelude.{FitsSigned}
use Rattle.std.specs.Int.{Width, int_wrap}
use Rattle.std.proofs.lemmas.Int.{int_wrap_fits, SFits-int_wrap, int_wrap-mul_right, int_wrap-sub_right, int_wrap-add_same}
use Rattle.poly_num.proofs.Ring.{expand}

module _ (w : Width) where
  -- to wrap twice is to wrap once
  twice : (z : ℤ) → int_wrap w (int_wrap w z) ≡ int_wrap w z
  twice z = int_wrap_fits w (int_wrap w z) (SFits-int_wrap w z)

  -- differences of numbers with the same low bits have the same low bits
  same_difference : (a b c d : ℤ) → int_wrap w a ≡ int_wrap w c → int_wrap w b ≡ int_wrap w d →
      int_wrap w (a -ℤ b) ≡ int_wrap w (c -ℤ d)
  same_difference a b c d e f =
      sym (int_wrap-sub_right w a b) ∙ ap (λ (z : ℤ). int_wrap w (a -ℤ z)) f ∙ int_wrap-sub_right w a d
      ∙ int_wrap-add_same w a c (neg_ℤ d) e

  -- a number times the odd part, with times_p for p
  same_product : (odd times p a : ℤ) → int_wrap w (odd *ℤ times) ≡ p →
      int_wrap w (a *ℤ (odd *ℤ times)) ≡ int_wrap w (a *ℤ p)
  same_product odd times p a e =
      sym (int_wrap-mul_right w a (odd *ℤ times)) ∙ ap (λ (z : ℤ). int_wrap w (a *ℤ z)) e

  module _ (p b divisor odd unit times_p times_b a c n q : ℤ) where
    module _ (whole : int_wrap w (odd *ℤ unit) ≡ divisor) (over_p : int_wrap w (odd *ℤ times_p) ≡ p)
        (over_b : int_wrap w (odd *ℤ times_b) ≡ b)
        (is : n ≡ int_wrap w (int_wrap w (a *ℤ times_p) -ℤ int_wrap w (c *ℤ times_b))) (exact : q *ℤ unit ≡ n) where
      -- the low bits that are shifted
      low : n ≡ int_wrap w (a *ℤ times_p -ℤ c *ℤ times_b)
      low =
          is ∙ same_difference (int_wrap w (a *ℤ times_p)) (int_wrap w (c *ℤ times_b)) (a *ℤ times_p) (c *ℤ times_b)
          (twice (a *ℤ times_p)) (twice (c *ℤ times_b))

      same_low : int_wrap w (q *ℤ divisor) ≡ int_wrap w (a *ℤ p -ℤ c *ℤ b)
      same_low =
          let first : q *ℤ (odd *ℤ unit) ≡ odd *ℤ (q *ℤ unit) = simp expand in
          let second : odd *ℤ (a *ℤ times_p -ℤ c *ℤ times_b) ≡ a *ℤ (odd *ℤ times_p) -ℤ c *ℤ (odd *ℤ times_b) =
          simp expand in
          sym (same_product odd unit divisor q whole) ∙ ap (int_wrap w) first
          ∙ ap (λ (z : ℤ). int_wrap w (odd *ℤ z)) (exact ∙ low)
          ∙ int_wrap-mul_right w odd (a *ℤ times_p -ℤ c *ℤ times_b) ∙ ap (int_wrap w) second
          ∙ same_difference (a *ℤ (odd *ℤ times_p)) (c *ℤ (odd *ℤ times_b)) (a *ℤ p) (c *ℤ b)
          (same_product odd times_p p a over_p) (same_product odd times_b b c over_b)

      -- where both fit the width, they are the same
      pub cross_quotient : FitsSigned w (q *ℤ divisor) → FitsSigned w (a *ℤ p -ℤ c *ℤ b) →
          q *ℤ divisor ≡ a *ℤ p -ℤ c *ℤ b
      cross_quotient f g =
          sym (int_wrap_fits w (q *ℤ divisor) f) ∙ same_low ∙ int_wrap_fits w (a *ℤ p -ℤ c *ℤ b) g
