-- Products and differences of numbers up to their limits fit a machine word.
use Rattle.std.proofs.Common.{◌*◌, ◌+◌, ◌≤◌, ◌<◌, ◌^◌, ℕ, ℤ, ◌*ℤ◌, ◌-ℤ◌, arith}
use Rattle.std.specs.Int.{w64}
use Rattle.std.specs.Prelude.{unsigned_abs, FitsSigned}
use Rattle.std.proofs.lemmas.Int.{unsigned_abs-mul, fits_signed_from_abs}
use Rattle.std.proofs.lemmas.Nat.{mul-le}
use Rattle.poly_num.proofs.WordLemmas.{difference_size}

pub product_fits : (q d : ℤ) → unsigned_abs q * unsigned_abs d < 2 ^ 63 → FitsSigned w64 (q *ℤ d)
product_fits q d lt = fits_signed_from_abs w64 (q *ℤ d) (rw unsigned_abs-mul lt)

product_limit : (a p : ℤ) (limit : ℕ) → unsigned_abs a ≤ limit → unsigned_abs (a *ℤ p) ≤ limit * unsigned_abs p
product_limit a p limit le =
    rw unsigned_abs-mul (mul-le (unsigned_abs a) (unsigned_abs p) limit (unsigned_abs p) le (omega arith))

pub cross_fits : (a p c b : ℤ) (of_a of_c : ℕ) → unsigned_abs a ≤ of_a → unsigned_abs c ≤ of_c →
    of_a * unsigned_abs p + of_c * unsigned_abs b < 2 ^ 63 → FitsSigned w64 (a *ℤ p -ℤ c *ℤ b)
cross_fits a p c b of_a of_c first second lt =
    let l = product_limit a p of_a first in
    let m = product_limit c b of_c second in
    let n = difference_size (a *ℤ p) (c *ℤ b) in
    fits_signed_from_abs w64 (a *ℤ p -ℤ c *ℤ b) (omega arith)

-- what the limit times a number fits, fits for lesser limits
pub product_below : (q limit d : ℕ) → q ≤ limit → limit * d < 2 ^ 63 → q * d < 2 ^ 63
product_below q limit d le lt = let l = mul-le q d limit d le (omega arith) in omega arith
