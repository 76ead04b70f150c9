-- Numbers whose products take half a machine word, and quotients of many of them that are tested together.
use Rattle.std.specs.Prelude.{◌≡◌, ℕ, ℤ, ◌<◌, ◌+◌, ◌^◌, ◌%◌, unsigned_abs, pos, List}
use Rattle.std.specs.List.{slice_index_or}

-- the size is at most 2 ^ 14 - 1: products of two, and their differences, fit half a machine word
abbrev pub IsSmall : ℤ → Type 0
IsSmall z = unsigned_abs z < 2 ^ 14

-- the first n numbers are small
abbrev pub AreSmallTo : ℕ → List ℤ → Type 0
AreSmallTo n numbers = (k : ℕ) → k < n → IsSmall (slice_index_or numbers k (pos 0))

-- the numbers at n places from `base` on are small
abbrev pub AreSmallFrom : ℕ → ℕ → List ℤ → Type 0
AreSmallFrom base n numbers = (k : ℕ) → k < n → IsSmall (slice_index_or numbers (base + k) (pos 0))

-- what the bits of all numbers together show: the sizes are small, and so many twos are in each
abbrev pub AreGood : ℕ → ℕ → ℕ → Type 0
AreGood sizes low twos = (sizes < 2 ^ 14) × (low % 2 ^ twos ≡ 0)

-- what a column and a divisor bring is small
pub record AreSmallFactors (p b divisor : ℤ) : Type 0 where
  pub of_p : IsSmall p
  pub of_b : IsSmall b
  pub of_divisor : IsSmall divisor
