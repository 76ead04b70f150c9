-- Products of numbers of one word are numbers, and so are their differences; exact quotients.
use Rattle.std.proofs.Common.{◌≡◌, ◌+◌, ◌*◌, ◌-◌, ◌≤◌, ◌^◌, ℤ, pos, negsuc, ◌*ℤ◌, ◌-ℤ◌, ◌∙◌, sym, subst, arith}
use Prim.Native.Nat.{◌∣◌}
use Rattle.std.specs.Prelude.{◌<ℤ◌, unsigned_abs, int_div}
use Rattle.std.proofs.lemmas.Int.{ints, unsigned_abs-mul}
use Rattle.std.proofs.lemmas.Nat.{mul-le}
use Rattle.poly_num.specs.Numbers.{IsNum, IsWord, Crosses}
use Rattle.poly_num.proofs.Ring.{mul_comm}
use Rattle.poly_num.proofs.Order.{cancel, positive_nonzero}
use Rattle.poly_num.proofs.DivisorLemmas.{dvd-multiple, quotient_times}

product_size : (a b : ℤ) → IsWord a → IsWord b →
    unsigned_abs (a *ℤ b) ≤ (2 ^ 63 - 1) * (2 ^ 63 - 1)
product_size a b h k =
    rw unsigned_abs-mul
    (mul-le (unsigned_abs a) (unsigned_abs b) (2 ^ 63 - 1) (2 ^ 63 - 1) (omega arith) (omega arith))

pub difference_size : (x y : ℤ) → unsigned_abs (x -ℤ y) ≤ unsigned_abs x + unsigned_abs y
difference_size (pos m) (pos n) = omega (arith, ints)
difference_size (pos m) (negsuc n) = omega (arith, ints)
difference_size (negsuc m) (pos n) = omega (arith, ints)
difference_size (negsuc m) (negsuc n) = omega (arith, ints)

pub words_product : (a b : ℤ) → IsWord a → IsWord b → IsNum (a *ℤ b)
words_product a b h k = let l = product_size a b h k in omega arith

pub words_cross : (a b c d : ℤ) → IsWord a → IsWord b → IsWord c → IsWord d → Crosses a b c d
words_cross a b c d f g h k = (
  words_product a b f g,
  words_product c d h k,
  (let l = product_size a b f g in
      let m = product_size c d h k in
      let n = difference_size (a *ℤ b) (c *ℤ d) in
      omega arith),
)

-- a number that is q times d: d divides it, and q is the quotient
pub exact_quotient : (d n q : ℤ) → pos 0 <ℤ d → q *ℤ d ≡ n →
    (unsigned_abs d ∣ unsigned_abs n) × (q ≡ int_div n d)
exact_quotient (negsuc m) n q lt e = absurd (omega (arith, ints))
exact_quotient (pos m) n q lt e =
    let divides : m ∣ unsigned_abs n = subst (λ (z : ℤ). m ∣ unsigned_abs z) e (dvd-multiple (pos m) q) in (
      divides,
      cancel (pos m) q (int_div n (pos m)) (positive_nonzero (pos m) lt)
          (mul_comm (pos m) q ∙ e ∙ sym (quotient_times m n divides) ∙ mul_comm (int_div n (pos m)) (pos m)),
    )
