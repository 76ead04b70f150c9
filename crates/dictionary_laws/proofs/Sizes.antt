-- A positive number has a positive size and positive divisors; products of equal numbers fit alike.
use Rattle.std.proofs.Common.{◌≡◌, ℕ, zero, suc, ◌<◌, ℤ, pos, negsuc, arith}
use Prim.Native.Nat.{◌∣◌}
use Rattle.std.specs.Prelude.{◌<ℤ◌, unsigned_abs}
use Rattle.std.proofs.lemmas.Int.{ints}
use Rattle.std.proofs.Math.Nat.{eq-zero_of_zero-dvd}
use Rattle.poly_num.specs.Numbers.{Crosses}

pub size_positive : (d : ℤ) → pos 0 <ℤ d → 0 < unsigned_abs d
size_positive (pos n) h = omega (arith, ints)
size_positive (negsuc n) h = absurd (omega (arith, ints))

pub divisor_positive : (d : ℕ) (x : ℤ) → pos 0 <ℤ x → d ∣ unsigned_abs x → 0 < d
divisor_positive zero x h k =
    absurd (let e = eq-zero_of_zero-dvd k in let f = size_positive x h in omega arith)
divisor_positive (suc d) x h k = omega arith

pub crosses_along : (a b c d e f g h : ℤ) → a ≡ e → b ≡ f → c ≡ g → d ≡ h → Crosses a b c d → Crosses e f g h
crosses_along a b c d e f g h i j k l m = rw (← i, ← j, ← k, ← l) m
