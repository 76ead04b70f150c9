-- Numbers up to a limit, whose products and their differences fit a machine word.
use Rattle.std.specs.Prelude.{◌≡◌, ℕ, ℤ, ◌<◌, ◌≤◌, ◌+◌, ◌*◌, ◌^◌, ◌%◌, unsigned_abs, pos, List}
use Rattle.std.specs.List.{slice_index_or}
use Rattle.words.specs.Crosses.{Cross}

-- no size of the numbers at n places from `base` on passes the limit
abbrev pub AreUpTo : ℕ → ℕ → ℕ → List ℤ → Type 0
AreUpTo limit base n numbers = (k : ℕ) → k < n → unsigned_abs (slice_index_or numbers (base + k) (pos 0)) ≤ limit

-- a p - c b is taken over a divisor for all `a` and `c` up to these limits
pub record LimitedCross : Type 0 where
  pub cross : Cross
  pub of_a : ℕ
  pub of_c : ℕ

-- the size of a p - c b is then at most 2 ^ 63 - 1
abbrev pub FitsWord : LimitedCross → Type 0
FitsWord h = h.of_a * unsigned_abs h.cross.p + h.of_c * unsigned_abs h.cross.b < 2 ^ 63

-- what the bits of many quotients together show: none of them passes a word times the divisor, and so many twos are in
-- each
abbrev pub AreInWord : ℕ → ℕ → ℤ → ℕ → Type 0
AreInWord limit low divisor twos = (limit * unsigned_abs divisor < 2 ^ 63) × (low % 2 ^ twos ≡ 0)
