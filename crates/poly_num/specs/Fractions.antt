-- Fractions, and their lowest terms.
use Rattle.std.specs.Prelude.{◌≡◌, ◌/◌, ℤ, pos, negsuc, neg_ℤ, ◌*ℤ◌, ◌<ℤ◌, unsigned_abs, int_div}
use Rattle.std.specs.Int.{IsGcd}
use Rattle.poly_num.specs.Divisors.{gcd_of}

-- a numerator over a denominator
pub record Fraction : Type 0 where
  pub num : ℤ
  pub den : ℤ

-- the denominator is positive, and shares only 1 with the numerator
pub record IsReduced (f : Fraction) : Type 0 where
  pub positive : pos 0 <ℤ f.den
  pub coprime : IsGcd (unsigned_abs f.num) (unsigned_abs f.den) 1

-- f is num / den
abbrev pub IsRatio : Fraction → ℤ → ℤ → Type 0
IsRatio f num den = f.num *ℤ den ≡ num *ℤ f.den

-- num, with its sign turned where den is negative
abbrev pub turned_by : ℤ → ℤ → ℤ
turned_by (pos n) num = num
turned_by (negsuc n) num = neg_ℤ num

-- num / den, for a den other than 0, in lowest terms, the sign in the numerator
unfoldable pub lowest : ℤ → ℤ → Fraction
lowest num den =
    let g = gcd_of (unsigned_abs num) (unsigned_abs den) in
    record { num = int_div (turned_by den num) (pos g); den = pos (unsigned_abs den / g) }
