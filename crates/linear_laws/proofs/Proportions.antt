-- Vectors by the values of all forms: zero vectors, and pairs with p u = q v.
use Rattle.std.proofs.Common.{◌≡◌, ◌≢◌, ℤ, pos, ◌+ℤ◌, ◌*ℤ◌, List, [], ◌∷◌, length, sym, ap, ◌∙◌, arith}
use Rattle.std.proofs.lemmas.Int.{ints}
use Rattle.poly_num.specs.Vectors.{Vector, ◌·◌, scale, IsZero, IsMultipleOf}
use Rattle.poly_model.specs.Independence.{Vanish}
use Rattle.poly_num.proofs.Ring.{expand, lin, mul_zero, zero_mul}
use Rattle.poly_num.proofs.Order.{zero_factor, mul_nonzero}
use Rattle.poly_num.proofs.VectorLemmas.{dot-scale, dot-zero, length-scale, same_by_forms}

-- a vector on which every form is 0 is zero
pub zero_by_forms : (y : Vector) → ((g : Vector) → g · y ≡ pos 0) → IsZero y
zero_by_forms [] h = tt
zero_by_forms (x ∷ y) h = (head x (h (pos 1 ∷ [])), zero_by_forms y (λ g. tail x (g · y) (h (pos 0 ∷ g))))
  where
    head : (x : ℤ) → pos 1 *ℤ x +ℤ pos 0 ≡ pos 0 → x ≡ pos 0
    head x h = omega (arith, ints)

    tail : (x s : ℤ) → pos 0 *ℤ x +ℤ s ≡ pos 0 → s ≡ pos 0
    tail x s h = omega (arith, ints, zero_mul x)

-- a vector on which some form is not 0 is not zero
pub not_zero_by_form : (g y : Vector) → g · y ≢ pos 0 → IsZero y → ⊥
not_zero_by_form g y n z = n (dot-zero g y z)

pub values_from_multiples : (p q : ℤ) (u v : Vector) → scale p u ≡ scale q v →
    (g : Vector) → p *ℤ (g · u) ≡ q *ℤ (g · v)
values_from_multiples p q u v e g = sym (dot-scale g p u) ∙ ap (λ t. g · t) e ∙ dot-scale g q v

pub multiples_from_values : (p q : ℤ) (u v : Vector) → length u ≡ length v →
    ((g : Vector) → p *ℤ (g · u) ≡ q *ℤ (g · v)) → scale p u ≡ scale q v
multiples_from_values p q u v l h =
    same_by_forms (scale p u) (scale q v) (length-scale p u ∙ l ∙ sym (length-scale q v))
    (λ g. dot-scale g p u ∙ h g ∙ sym (dot-scale g q v))

pub same_width : (p q : ℤ) (u v : Vector) → scale p u ≡ scale q v → length u ≡ length v
same_width p q u v e = sym (length-scale p u) ∙ ap length e ∙ length-scale q v

-- p x = q y where p is not 0: x is 0 if y is
pub zero_from_proportion : (p q x y : ℤ) → p ≢ pos 0 → p *ℤ x ≡ q *ℤ y → y ≡ pos 0 → x ≡ pos 0
zero_from_proportion p q x y n e z = zero_factor p x (e ∙ ap (λ t. q *ℤ t) z ∙ mul_zero q) n

-- p u = q v where p is not 0: the rows are 0 at u if they are at v
pub vanish_from_multiple : (p q : ℤ) (u v : Vector) → p ≢ pos 0 → scale p u ≡ scale q v →
    (gs : List Vector) → Vanish gs v → Vanish gs u
vanish_from_multiple p q u v n e [] h = tt
vanish_from_multiple p q u v n e (g ∷ gs) h = (
  zero_from_proportion p q (g · u) (g · v) n (values_from_multiples p q u v e g) h.0,
  vanish_from_multiple p q u v n e gs h.1,
)

-- a y = b z and c w = d z, where a, b and c are not 0: w is a multiple of y
pub multiple_along : (a b c d : ℤ) (w y z : Vector) → b ≢ pos 0 → c ≢ pos 0 →
    scale a y ≡ scale b z → scale c w ≡ scale d z → IsMultipleOf y w
multiple_along a b c d w y z nb nc e f = (
  b *ℤ c,
  a *ℤ d,
  mul_nonzero b c nb nc,
  multiples_from_values (b *ℤ c) (a *ℤ d) w y (same_width c d w z f ∙ sym (same_width a b y z e))
      (λ g. through a b c d (g · w) (g · y) (g · z)
      (values_from_multiples a b y z e g) (values_from_multiples c d w z f g)),
)
  where
    through : (a b c d w y z : ℤ) → a *ℤ y ≡ b *ℤ z → c *ℤ w ≡ d *ℤ z → (b *ℤ c) *ℤ w ≡ (a *ℤ d) *ℤ y
    through a b c d w y z e f =
        let g = simp expand at (ap (λ (t : ℤ). d *ℤ t) e) in
        let h : b *ℤ (c *ℤ w) ≡ b *ℤ (d *ℤ z) = ap (λ (t : ℤ). b *ℤ t) f in
        simp expand (omega (arith, lin))

-- y is not zero and p y = q z: q is not 0
pub factor_nonzero : (p q : ℤ) (y z : Vector) → p ≢ pos 0 → (IsZero y → ⊥) → scale p y ≡ scale q z → q ≢ pos 0
factor_nonzero p q y z np nz e k =
    nz (zero_by_forms y (λ g. zero_factor p (g · y) (value g) np))
  where
    value : (g : Vector) → p *ℤ (g · y) ≡ pos 0
    value g = values_from_multiples p q y z e g ∙ ap (λ t. t *ℤ (g · z)) k ∙ zero_mul (g · z)
