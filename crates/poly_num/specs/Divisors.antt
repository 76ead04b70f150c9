-- Greatest common divisors of sizes, of numbers and of the entries of a vector.
use Rattle.std.specs.Prelude.{◌≡◌, ℕ, zero, suc, ◌<◌, ◌%◌, ℤ, pos, ◌≤ℤ◌, [], ◌∷◌, map, unsigned_abs, int_div}
use Rattle.std.specs.Int.{IsGcd}
use Rattle.poly_num.specs.Vectors.{Vector, scale, IsZero, IsPrimitive}

-- at most n of Euclid's steps from a and b
unfoldable pub gcd_in : ℕ → ℕ → ℕ → ℕ
gcd_in zero a b = a
gcd_in (suc n) a zero = a
gcd_in (suc n) a (suc b) = gcd_in n (suc b) (a % suc b)

-- the greatest common divisor of a and b; of 0 and 0 it is 0
unfoldable pub gcd_of : ℕ → ℕ → ℕ
gcd_of a b = gcd_in b a b

-- g is not negative, and its size is the greatest common divisor of the sizes of a and b
abbrev pub IsGcdOf : ℤ → ℤ → ℤ → Type 0
IsGcdOf a b g = (pos 0 ≤ℤ g) × IsGcd (unsigned_abs a) (unsigned_abs b) (unsigned_abs g)

-- the greatest common divisor of the entries; of a vector of zeros it is 0
abbrev pub gcd_of_all : Vector → ℕ
gcd_of_all [] = 0
gcd_of_all (x ∷ v) = gcd_of (unsigned_abs x) (gcd_of_all v)

-- each entry, rounded toward zero, over d
abbrev pub quotients : Vector → ℤ → Vector
quotients v d = map (λ x. int_div x d) v

-- new is old without its greatest common divisor; zeros stay zeros
pub record MakesPrimitive (old new : Vector) : Type 0 where
  pub zero_kept : IsZero old → new ≡ old
  pub primitive : (IsZero old → ⊥) → IsPrimitive new
  pub factor : (g : ℕ) × (0 < g) × (old ≡ scale (pos g) new)
