-- Numbers of 127 bits and a sign, and what has to be one for a product to be taken.
use Rattle.std.specs.Prelude.{◌≡◌, ℕ, ℤ, ◌<◌, ◌*◌, ◌^◌, ◌*ℤ◌, ◌-ℤ◌, unsigned_abs}
use Rattle.std.specs.Ordering.{MatchOrdering}
use Rattle.std.specs.declared.cmp.Ordering.{Ordering}

-- the size is at most 2 ^ 127 - 1
abbrev pub IsNum : ℤ → Type 0
IsNum z = unsigned_abs z < 2 ^ 127

-- the size is at most 2 ^ 63 - 1: the number fits a machine word
abbrev pub IsWord : ℤ → Type 0
IsWord z = unsigned_abs z < 2 ^ 63

-- a b, c d and a b - c d are numbers
abbrev pub Crosses : ℤ → ℤ → ℤ → ℤ → Type 0
Crosses a b c d = IsNum (a *ℤ b) × IsNum (c *ℤ d) × IsNum (a *ℤ b -ℤ c *ℤ d)

-- r is the order of a / b and c / d
abbrev pub Orders : Ordering → ℕ → ℕ → ℕ → ℕ → Type 0
Orders r a b c d = MatchOrdering r (a * d < c * b) (a * d ≡ c * b) (c * b < a * d)
