-- The ring laws of ℤ, and one tactic for its equations and orders.
--
--     simp expand (omega (arith, lin))
--
-- proves an equation of sums and products: `expand` multiplies out and sorts the factors of each
-- product, and `omega` takes each product as an unknown. Where each step is an order or an equation
-- without products, `omega (arith, lin)` alone serves, and `simp expand` alone where the sides are
-- equal once they are multiplied out.
--
-- With hypotheses: multiply each by what the goal wants, and expand it too.
--
--     let g = simp expand at (ap (λ (z : ℤ). k *ℤ z) e) in
--     simp expand (omega (arith, lin))
--
-- Write the arguments of these laws out: an `_` under `+ℤ` or `*ℤ` is not found. Prove each step as
-- a lemma over variables, never on large terms. `three_by_three` and `substituted` are examples.
use Rattle.std.proofs.Common.{◌≡◌, ◌*◌, ℤ, pos, ◌+ℤ◌, ◌-ℤ◌, ◌*ℤ◌, neg_ℤ, arith, sym, ap, ◌∙◌}
use Rattle.std.proofs.lemmas.Int.{ints}
use lib.IntN.{*ℤ_comm, neg_ℤ-neg_ℤ, neg_ℤ-+ℤ}
use borrow.Author.Differences.{up, down, product_is, sum_is_lem, neg_is, same_in, same_out, Apart-out, lt_out, le_out, lt_T, le_T, lt_not, le_not, lt-true, lt-false, le-true, le-false, below_in, at_most_in, lt_in, le_in, fits_out, fits_in}

pub mul_comm : (a b : ℤ) → a *ℤ b ≡ b *ℤ a
mul_comm = *ℤ_comm

pub mul_assoc : (a b c : ℤ) → (a *ℤ b) *ℤ c ≡ a *ℤ (b *ℤ c)
mul_assoc a b c =
    omega (
      arith,
      ints,
      ap (λ n. n * up c) (product_is a b).0,
      ap (λ n. n * down c) (product_is a b).0,
      ap (λ n. n * up c) (product_is a b).1,
      ap (λ n. n * down c) (product_is a b).1,
      ap (λ n. up a * n) (product_is b c).0,
      ap (λ n. down a * n) (product_is b c).0,
      ap (λ n. up a * n) (product_is b c).1,
      ap (λ n. down a * n) (product_is b c).1,
    )

pub mul_left_comm : (a b c : ℤ) → a *ℤ (b *ℤ c) ≡ b *ℤ (a *ℤ c)
mul_left_comm a b c = sym (mul_assoc a b c) ∙ ap (λ x. x *ℤ c) (*ℤ_comm a b) ∙ mul_assoc b a c

pub mul-add : (a b c : ℤ) → a *ℤ (b +ℤ c) ≡ a *ℤ b +ℤ a *ℤ c
mul-add a b c = omega (arith, ints, ap (λ n. up a * n) (sum_is_lem b c), ap (λ n. down a * n) (sum_is_lem b c))

pub add-mul : (a b c : ℤ) → (a +ℤ b) *ℤ c ≡ a *ℤ c +ℤ b *ℤ c
add-mul a b c = omega (arith, ints, ap (λ n. n * up c) (sum_is_lem a b), ap (λ n. n * down c) (sum_is_lem a b))

pub neg-mul : (a b : ℤ) → neg_ℤ a *ℤ b ≡ neg_ℤ (a *ℤ b)
neg-mul a b =
    omega (
      arith,
      ints,
      ap (λ n. n * up b) (neg_is a).0,
      ap (λ n. n * up b) (neg_is a).1,
      ap (λ n. n * down b) (neg_is a).0,
      ap (λ n. n * down b) (neg_is a).1,
    )

pub mul-neg : (a b : ℤ) → a *ℤ neg_ℤ b ≡ neg_ℤ (a *ℤ b)
mul-neg a b = *ℤ_comm a (neg_ℤ b) ∙ neg-mul b a ∙ ap neg_ℤ (*ℤ_comm b a)

-- multiplied out, the factors of each product sorted
pub ruleset expand = (mul_assoc, mul_left_comm, mul_comm, mul-add, add-mul, neg-mul, mul-neg, neg_ℤ-neg_ℤ, neg_ℤ-+ℤ)

-- std's `ints` without the law of products: each product is an unknown
pub ruleset lin = (
  same_out,
  Apart-out,
  lt_out,
  le_out,
  lt_T,
  le_T,
  lt_not,
  le_not,
  lt-true,
  lt-false,
  le-true,
  le-false,
  same_in,
  below_in,
  at_most_in,
  lt_in,
  le_in,
  sum_is_lem,
  neg_is,
  fits_out,
  fits_in,
)

pub mul_zero : (a : ℤ) → a *ℤ pos 0 ≡ pos 0
mul_zero a = omega (arith, ints)

pub zero_mul : (a : ℤ) → pos 0 *ℤ a ≡ pos 0
zero_mul a = omega (arith, ints)

pub mul_one : (a : ℤ) → a *ℤ pos 1 ≡ a
mul_one a = omega (arith, ints)

pub one_mul : (a : ℤ) → pos 1 *ℤ a ≡ a
one_mul a = omega (arith, ints)

pub add_zero : (a : ℤ) → a +ℤ pos 0 ≡ a
add_zero a = omega (arith, ints)

pub zero_add : (a : ℤ) → pos 0 +ℤ a ≡ a
zero_add a = omega (arith, ints)

pub neg-mul-neg : (a b : ℤ) → neg_ℤ a *ℤ neg_ℤ b ≡ a *ℤ b
neg-mul-neg a b = simp expand

pub mul-sub : (a b c : ℤ) → a *ℤ (b -ℤ c) ≡ a *ℤ b -ℤ a *ℤ c
mul-sub a b c = simp expand

-- a three by three determinant, along its first row and along its first column
three_by_three : (a b c d e f g h i : ℤ) →
    a *ℤ (e *ℤ i -ℤ f *ℤ h) -ℤ b *ℤ (d *ℤ i -ℤ f *ℤ g) +ℤ c *ℤ (d *ℤ h -ℤ e *ℤ g) ≡
    a *ℤ (e *ℤ i -ℤ f *ℤ h) -ℤ d *ℤ (b *ℤ i -ℤ c *ℤ h) +ℤ g *ℤ (b *ℤ f -ℤ c *ℤ e)
three_by_three a b c d e f g h i = simp expand (omega (arith, lin))

-- a row solved for s, put into another row: both over one denominator d
substituted : (d r v s t r0 r1 r2 v0 v1 v2 : ℤ) →
    d *ℤ r ≡ r0 +ℤ r1 *ℤ s +ℤ r2 *ℤ t → d *ℤ v ≡ v0 +ℤ v1 *ℤ s +ℤ v2 *ℤ t →
    d *ℤ (r1 *ℤ v) ≡ d *ℤ (v1 *ℤ r) +ℤ (r1 *ℤ v0 -ℤ v1 *ℤ r0) +ℤ (r1 *ℤ v2 -ℤ v1 *ℤ r2) *ℤ t
substituted d r v s t r0 r1 r2 v0 v1 v2 e f =
    let g = simp expand at (ap (λ (z : ℤ). v1 *ℤ z) e) in
    let h = simp expand at (ap (λ (z : ℤ). r1 *ℤ z) f) in
    simp expand (omega (arith, lin))
