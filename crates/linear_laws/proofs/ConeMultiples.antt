-- Where a positive multiple of y is z, y lies in a cone if z does, and is alone where z is.
use Rattle.std.proofs.Common.{◌≡◌, ℕ, ℤ, pos, ◌*ℤ◌, ◌≤ℤ◌, ◌<ℤ◌, List, [], ◌∷◌, sym, ◌∙◌, subst, arith}
use Rattle.std.proofs.lemmas.Int.{ints}
use Rattle.std.specs.List.{AllByRecursion}
use Rattle.poly_num.specs.Vectors.{Vector, ◌·◌, scale, IsMultipleOf}
use Rattle.poly_num.proofs.Ring.{one_mul}
use Rattle.poly_num.proofs.Order.{positive_nonzero, positive_factor}
use Rattle.linear_laws.specs.Corners.{IsInConeOf, IsOnTight, IsAloneOnTight}
use Rattle.linear_laws.proofs.Proportions.{values_from_multiples, zero_from_proportion, vanish_from_multiple, same_width, multiple_along}
use Rattle.linear_laws.proofs.Nearest.{nonnegative_factor}

module _ (p : ℤ) (y z : Vector) (positive : pos 0 <ℤ p) (times : scale p y ≡ scale (pos 1) z) where
  value_along : (g : Vector) → p *ℤ (g · y) ≡ g · z
  value_along g = values_from_multiples p (pos 1) y z times g ∙ one_mul (g · z)

  pub positive_along : (g : Vector) → pos 0 <ℤ (g · z) → pos 0 <ℤ (g · y)
  positive_along g h = positive_factor p (g · y) positive (subst (λ t. pos 0 <ℤ t) (sym (value_along g)) h)

  pub nonnegative_along : (gs : List Vector) → AllByRecursion (λ g. pos 0 ≤ℤ (g · z)) gs →
      AllByRecursion (λ g. pos 0 ≤ℤ (g · y)) gs
  nonnegative_along [] h = tt
  nonnegative_along (g ∷ gs) h = (
    nonnegative_factor p (g · y) positive (subst (λ t. pos 0 ≤ℤ t) (sym (value_along g)) h.0),
    nonnegative_along gs h.1,
  )

  zero_along : (g : Vector) → g · z ≡ pos 0 → g · y ≡ pos 0
  zero_along g e =
      zero_from_proportion p (pos 1) (g · y) (g · z) (positive_nonzero p positive)
      (values_from_multiples p (pos 1) y z times g) e

  on_tight_along : (w : Vector) (gs : List Vector) → IsOnTight y gs w → IsOnTight z gs w
  on_tight_along w [] t = tt
  on_tight_along w (g ∷ gs) t = (λ e. t.0 (zero_along g e), on_tight_along w gs t.1)

module _ (n : ℕ) (fixed rows : List Vector) (p : ℤ) (y z : Vector) (positive : pos 0 <ℤ p)
    (times : scale p y ≡ scale (pos 1) z) where
  pub cone_along : IsInConeOf n fixed rows z → IsInConeOf n fixed rows y
  cone_along c = record {
    width = same_width p (pos 1) y z times ∙ c.width;
    vanishing = vanish_from_multiple p (pos 1) y z (positive_nonzero p positive) times fixed c.vanishing;
    nonnegative = nonnegative_along p y z positive times rows c.nonnegative;
  }

  pub alone_along : IsAloneOnTight n fixed rows z → IsAloneOnTight n fixed rows y
  alone_along a w l v t = by (a w l v (on_tight_along p y z positive times w rows t))
    where
      by : IsMultipleOf z w → IsMultipleOf y w
      by (c, d, nc, e) = multiple_along p (pos 1) c d w y z (λ k. omega (arith, ints)) nc times e
