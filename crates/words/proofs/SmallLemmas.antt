-- Products of small numbers fit half a machine word, and so do their differences.
use Rattle.std.proofs.Common.{◌*◌, ◌-◌, ◌≤◌, ◌<◌, ◌^◌, ℤ, ◌*ℤ◌, ◌-ℤ◌, arith}
use Rattle.std.specs.Int.{w32}
use Rattle.std.specs.Prelude.{unsigned_abs, FitsSigned}
use Rattle.std.proofs.lemmas.Int.{unsigned_abs-mul, fits_signed_from_abs}
use Rattle.std.proofs.lemmas.Nat.{mul-le}
use Rattle.poly_num.proofs.WordLemmas.{difference_size}
use Rattle.words.specs.Small.{IsSmall}

product_size : (a b : ℤ) → IsSmall a → IsSmall b → unsigned_abs (a *ℤ b) ≤ (2 ^ 14 - 1) * (2 ^ 14 - 1)
product_size a b h k =
    rw unsigned_abs-mul
    (mul-le (unsigned_abs a) (unsigned_abs b) (2 ^ 14 - 1) (2 ^ 14 - 1) (omega arith) (omega arith))

fits_from_size : (z : ℤ) → unsigned_abs z < 2 ^ 31 → FitsSigned w32 z
fits_from_size z lt = fits_signed_from_abs w32 z lt

pub small_product : (a b : ℤ) → IsSmall a → IsSmall b → FitsSigned w32 (a *ℤ b)
small_product a b h k = let l = product_size a b h k in fits_from_size (a *ℤ b) (omega arith)

pub small_cross : (a b c d : ℤ) → IsSmall a → IsSmall b → IsSmall c → IsSmall d → FitsSigned w32 (a *ℤ b -ℤ c *ℤ d)
small_cross a b c d f g h k =
    let l = product_size a b f g in
    let m = product_size c d h k in
    let n = difference_size (a *ℤ b) (c *ℤ d) in
    fits_from_size (a *ℤ b -ℤ c *ℤ d) (omega arith)
