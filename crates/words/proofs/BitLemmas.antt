-- Numbers of one machine width: those with the same bits are equal, and shifts that lose nothing.
use Rattle.std.proofs.Common.{◌≡◌, ℕ, ℤ, pos, negsuc, ◌<◌, ◌*◌, ◌+◌, ◌-◌, ◌^◌, ◌/◌, ◌%◌, ◌*ℤ◌, neg_ℤ, zero, suc, ap, sym, ◌∙◌, arith, mul_comm, pow-add, bit_or, ◌≤◌}
use Rattle.std.specs.Prelude.{FitsSigned}
use Rattle.std.specs.Int.{w32, w64, w128, cast_unsigned, cast_signed}
use Rattle.std.specs.Int.Signed.{shr_z}
use Rattle.std.proofs.lemmas.Int.{ints, to_z-of_z}
use Rattle.std.proofs.lemmas.Nat.{pow_below, pow_pos, shr_le, shr_split, mod_below, or_mod, le_or_l, le_or_r}
use Rattle.std.proofs.Math.Nat.{add-mul, mul-sub}

pub word_from_bits : (x y : ℤ) → FitsSigned w64 x → FitsSigned w64 y → cast_unsigned w64 x ≡ cast_unsigned w64 y → x ≡ y
word_from_bits x y f g e = sym (to_z-of_z w64 x f) ∙ ap (cast_signed w64) e ∙ to_z-of_z w64 y g

pub wide_from_bits : (x y : ℤ) → FitsSigned w128 x → FitsSigned w128 y → cast_unsigned w128 x ≡ cast_unsigned w128 y →
    x ≡ y
wide_from_bits x y f g e = sym (to_z-of_z w128 x f) ∙ ap (cast_signed w128) e ∙ to_z-of_z w128 y g

pub twos_fit : (k : ℕ) → k < 32 → FitsSigned w64 (pos (2 ^ k))
twos_fit k lt = let l = pow_below k 32 lt in omega (arith, ints)

pub twos_fit_half : (k : ℕ) → k < 31 → FitsSigned w32 (pos (2 ^ k))
twos_fit_half k lt = let l = pow_below k 31 lt in omega (arith, ints)

pub shift_fits : (z : ℤ) (k : ℕ) → FitsSigned w64 z → FitsSigned w64 (shr_z z (2 ^ k))
shift_fits (pos n) k f = let l = shr_le n k in omega (arith, ints)
shift_fits (negsuc n) k f = let l = shr_le n k in omega (arith, ints)

pub half_shift_fits : (z : ℤ) (k : ℕ) → FitsSigned w32 z → FitsSigned w32 (shr_z z (2 ^ k))
half_shift_fits (pos n) k f = let l = shr_le n k in omega (arith, ints)
half_shift_fits (negsuc n) k f = let l = shr_le n k in omega (arith, ints)

multiple_bound : (d m r : ℕ) → d * m ≡ r + 1 → r < m → r + 1 ≡ m
multiple_bound zero m r e lt = absurd (omega arith)
multiple_bound (suc d) m r e lt = omega arith

-- where the number that has the other bits is a multiple of a power of 2, this one is one less than such a multiple
last_bits : (w n k : ℕ) → k ≤ w → n < 2 ^ w → (2 ^ w - suc n) % 2 ^ k ≡ 0 → (n / 2 ^ k + 1) * 2 ^ k ≡ n + 1
last_bits w n k le small none =
    let m = 2 ^ k in
    let j = (2 ^ w - suc n) / m in
    let q = n / m in
    let split : w ≡ (w - k) + k = omega arith in
    let all : 2 ^ w ≡ 2 ^ (w - k) * m = ap (λ (i : ℕ). 2 ^ i) split ∙ pow-add 2 (w - k) k in
    let first = shr_split (2 ^ w - suc n) k in
    let second = shr_split n k in
    let below = mod_below n m (pow_pos k) in
    let sum = add-mul j q m in
    let turn = mul_comm m (2 ^ (w - k)) in
    let turned = mul_comm m (j + q) in
    let rest : (2 ^ (w - k) - (j + q)) * m ≡ n % m + 1 =
    mul_comm (2 ^ (w - k) - (j + q)) m ∙ mul-sub m (2 ^ (w - k)) (j + q) ∙ omega arith in
    let e = multiple_bound (2 ^ (w - k) - (j + q)) m (n % m) rest below in
    add-mul q 1 m ∙ omega arith

multiple_of_pos : (n k : ℕ) → n % 2 ^ k ≡ 0 → shr_z (pos n) (2 ^ k) *ℤ pos (2 ^ k) ≡ pos n
multiple_of_pos n k none = let s = shr_split n k in ap pos (omega arith)

multiple_of_neg : (n k : ℕ) → (n / 2 ^ k + 1) * 2 ^ k ≡ n + 1 → shr_z (negsuc n) (2 ^ k) *ℤ pos (2 ^ k) ≡ negsuc n
multiple_of_neg n k e =
    let f : suc (n / 2 ^ k) * 2 ^ k ≡ suc n = omega arith in
    ap (λ (m : ℕ). neg_ℤ (pos m)) f

-- a multiple of a power of 2 is that power times what is left of it after the shift
pub exact_shift : (z : ℤ) (k : ℕ) → k < 32 → FitsSigned w64 z → cast_unsigned w64 z % 2 ^ k ≡ 0 →
    shr_z z (2 ^ k) *ℤ pos (2 ^ k) ≡ z
exact_shift (pos n) k lt f none = multiple_of_pos n k none
exact_shift (negsuc n) k lt f none =
    multiple_of_neg n k (last_bits 64 n k (omega arith) (omega (arith, ints)) none)

-- the same in half a word
pub exact_half_shift : (z : ℤ) (k : ℕ) → k < 32 → FitsSigned w32 z → cast_unsigned w32 z % 2 ^ k ≡ 0 →
    shr_z z (2 ^ k) *ℤ pos (2 ^ k) ≡ z
exact_half_shift (pos n) k lt f none = multiple_of_pos n k none
exact_half_shift (negsuc n) k lt f none =
    multiple_of_neg n k (last_bits 32 n k (omega arith) (omega (arith, ints)) none)

-- the twos that are in the bits of two numbers are in each of them
pub twos_of_first : (a b k : ℕ) → bit_or a b % 2 ^ k ≡ 0 → a % 2 ^ k ≡ 0
twos_of_first a b k e =
    let s = sym (or_mod a b k) ∙ e in
    let l = le_or_l (a % 2 ^ k) (b % 2 ^ k) in
    omega arith

pub twos_of_second : (a b k : ℕ) → bit_or a b % 2 ^ k ≡ 0 → b % 2 ^ k ≡ 0
twos_of_second a b k e =
    let s = sym (or_mod a b k) ∙ e in
    let l = le_or_r (a % 2 ^ k) (b % 2 ^ k) in
    omega arith
