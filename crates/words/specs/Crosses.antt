-- What takes `a p - c b` over a divisor, by way of the inverse of the divisor's odd part.
use Rattle.std.specs.Prelude.{◌≡◌, ℕ, ℤ, pos, ◌<◌, ◌+◌, ◌^◌, ◌*ℤ◌, ◌-ℤ◌, List}
use Rattle.std.specs.Int.{Width, int_wrap}
use Rattle.std.specs.List.{slice_index_or}

-- a p - c b is taken over the divisor, which has so many twos
pub record Cross : Type 0 where
  pub p : ℤ
  pub b : ℤ
  pub divisor : ℤ
  pub twos : ℕ

-- it takes a p - c b over the divisor
abbrev pub IsCrossOf : Cross → ℤ → ℤ → ℤ → Type 0
IsCrossOf h p b divisor = (h.p ≡ p) × (h.b ≡ b) × (h.divisor ≡ divisor)

-- q is a p - c b over the divisor
abbrev pub IsQuotient : Cross → ℤ → ℤ → ℤ → Type 0
IsQuotient h a c q = q *ℤ h.divisor ≡ a *ℤ h.p -ℤ c *ℤ h.b

-- the numbers of `new` at n places from `base` on are a p - c b over the divisor, where a is at the same place of `cells`
-- and c is that of `own`
abbrev pub AreQuotients : Cross → List ℤ → List ℤ → ℕ → ℕ → List ℤ → Type 0
AreQuotients h cells own base n new = (k : ℕ) → k < n →
    IsQuotient h (slice_index_or cells (base + k) (pos 0)) (slice_index_or own k (pos 0))
    (slice_index_or new (base + k) (pos 0))

-- the divisor is its odd part times so many twos, and the odd part times the two numbers has the low bits of p and b
pub record IsInverted (w : Width) (p b divisor odd : ℤ) (twos : ℕ) (times_p times_b : ℤ) : Type 0 where
  pub few : twos < 31
  pub whole : int_wrap w (odd *ℤ pos (2 ^ twos)) ≡ divisor
  pub over_p : int_wrap w (odd *ℤ times_p) ≡ p
  pub over_b : int_wrap w (odd *ℤ times_b) ≡ b
