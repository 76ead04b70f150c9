-- Sizes: the product of two numbers of 64 bits is at most 2 ^ 126.
use Rattle.std.proofs.Common.{◌*◌, ◌≤◌, ◌^◌, ℤ, pos, negsuc, ◌*ℤ◌, arith, FitsSigned}
use Rattle.std.specs.Prelude.{◌≤ℤ◌, unsigned_abs}
use Rattle.std.specs.Int.{w64, w128}
use Rattle.std.proofs.lemmas.Int.{ints, unsigned_abs-mul, fits_signed_mul}
use Rattle.std.proofs.lemmas.Nat.{mul-le}

pub at_most_size : (z : ℤ) → z ≤ℤ pos (unsigned_abs z)
at_most_size (pos n) = omega (arith, ints)
at_most_size (negsuc n) = omega (arith, ints)

pub size_of_64 : (a : ℤ) → FitsSigned w64 a → unsigned_abs a ≤ 2 ^ 63
size_of_64 (pos n) f = omega (arith, f.sfits)
size_of_64 (negsuc n) f = omega (arith, f.sfits)

pub product_fits : (a b : ℤ) → FitsSigned w64 a → FitsSigned w64 b → FitsSigned w128 (a *ℤ b)
product_fits a b f g = fits_signed_mul w128 a b (2 ^ 63) (2 ^ 63) (size_of_64 a f) (size_of_64 b g) (omega arith)

pub product_at_most : (a b : ℤ) → FitsSigned w64 a → FitsSigned w64 b → (a *ℤ b) ≤ℤ pos (2 ^ 126)
product_at_most a b f g =
    let h : unsigned_abs (a *ℤ b) ≤ 2 ^ 63 * 2 ^ 63 =
    rw unsigned_abs-mul
    (mul-le (unsigned_abs a) (unsigned_abs b) (2 ^ 63) (2 ^ 63) (size_of_64 a f) (size_of_64 b g)) in
    let l = at_most_size (a *ℤ b) in
    omega (arith, ints)
