-- Bits that say of which numbers a test holds: the lowest that is set, and what is left above it.
use Rattle.std.proofs.Common.{◌≡◌, ◌≢◌, ℕ, ℤ, pos, zero, suc, ◌+◌, ◌-◌, ◌*◌, ◌/◌, ◌%◌, ◌^◌, ◌<◌, ◌≤◌, Bool, true, false, cond, ⊎_elim, ◌⊎◌, refl, sym, ap, subst, ◌∙◌, arith, add-one}
use Rattle.std.specs.Int.Count.{count_trailing_zeros, under}
use Rattle.std.proofs.Math.Nat.{pow-suc, mul_comm, div-div-eq-div-mul, div-one}
use Rattle.std.specs.Prelude.{◌<ℤ◌, int_lt}
use Rattle.std.proofs.lemmas.Int.{ints}
use Rattle.std.proofs.Math.Pow.{pow_mono}
use Rattle.lex_pivot.specs.Negatives.{bits_of}

lowest : (b : Bool) (n : ℕ) → ((cond b 1 0 + 2 * n) % 2 ≡ cond b 1 0) × ((cond b 1 0 + 2 * n) / 2 ≡ n)
lowest true n = (omega arith, omega arith)
lowest false n = (omega arith, omega arith)

zeros_below : (k n : ℕ) → count_trailing_zeros (suc k) n ≡ under (n % 2) (count_trailing_zeros k (n / 2))
unfolding count_trailing_zeros
zeros_below k n = refl

equal_or_above : (i k : ℕ) → i ≤ k → (i ≡ k) ⊎ (suc i ≤ k)
equal_or_above i k l = grind arith

pub bit_at_most : (b : Bool) (n : ℕ) → n ≡ cond b 1 0 → n ≤ 1
bit_at_most true n e = omega (arith, e)
bit_at_most false n e = omega (arith, e)

module _ (test : ℕ → Bool) where
  -- they fit in n bits
  one_bit : (b : Bool) (m q r : ℕ) → m < q → r ≡ q * 2 → cond b 1 0 + 2 * m < r
  one_bit true m q r l e = omega arith
  one_bit false m q r l e = omega arith

  pub bits_fit : (n i : ℕ) → bits_of test i n < 2 ^ n
  bits_fit zero i = omega arith
  bits_fit (suc n) i = one_bit (test i) (bits_of test (suc i) n) (2 ^ n) (2 ^ suc n) (bits_fit n (suc i)) (pow-suc 2 n)

  -- one bit more fits a machine number
  pub room : (n i : ℕ) → n < 64 → 2 * bits_of test i n + 1 < 2 ^ 64
  room n i l =
      let f = bits_fit n i in let e = pow-suc 2 n in let p : 2 ^ suc n ≤ 2 ^ 64 = pow_mono {i = suc n} {j = 64} (omega arith) in omega arith

  -- one more in front
  pub one_in_front : (n m i j : ℕ) → m ≡ n + 1 → j ≡ i + 1 →
      2 * bits_of test j n + cond (test i) 1 0 ≡ bits_of test i m
  one_in_front n m i j e f =
      subst (λ z. 2 * bits_of test z n + cond (test i) 1 0 ≡ bits_of test i m) (sym (f ∙ add-one i))
      (subst (λ z. 2 * bits_of test (suc i) n + cond (test i) 1 0 ≡ bits_of test i z) (sym (e ∙ add-one n)) (omega arith))

  -- where none is set
  head_false : (b : Bool) (m : ℕ) → cond b 1 0 + 2 * m ≡ 0 → (b ≡ false) × (m ≡ 0)
  head_false true m e = absurd (omega arith)
  head_false false m e = (refl, omega arith)

  pub none_set : (n i : ℕ) → bits_of test i n ≡ 0 → (k : ℕ) → i ≤ k → k < i + n → test k ≡ false
  none_set zero i e k l m = absurd (omega arith)
  none_set (suc n) i e k l m =
      let h = head_false (test i) (bits_of test (suc i) n) e in
      ⊎_elim (λ (q : i ≡ k). subst (λ z. test z ≡ false) q h.0)
      (λ (q : suc i ≤ k). none_set n (suc i) h.1 k q (omega arith)) (equal_or_above i k l)

  -- t places further the first bit is set, and these are left
  pub record IsNext (i n t rest : ℕ) : Type 0 where
    pub within : t < n
    pub holds : test (i + t) ≡ true
    pub before : (k : ℕ) → i ≤ k → k < i + t → test k ≡ false
    pub left : rest ≡ bits_of test (i + t + 1) (n - (t + 1))

  here : (n i : ℕ) → test i ≡ true → IsNext i (suc n) 0 (bits_of test i (suc n) / 2 ^ 0 / 2)
  here n i e = record {
    within = omega arith;
    holds = subst (λ z. test z ≡ true) (omega arith) e;
    before = λ k l m. absurd (omega arith);
    left = ap (λ z. z / 2) (div-one (bits_of test i (suc n))) ∙ (lowest (test i) (bits_of test (suc i) n)).1
        ∙ ap (λ z. bits_of test z n) (omega arith) ∙ ap (λ z. bits_of test (i + 0 + 1) z) (omega arith);
  }

  further : (n i t : ℕ) → test i ≡ false → IsNext (suc i) n t (bits_of test (suc i) n / 2 ^ t / 2) →
      IsNext i (suc n) (suc t) (bits_of test i (suc n) / 2 ^ suc t / 2)
  further n i t e h = record {
    within = let w = h.within in omega arith;
    holds = subst (λ z. test z ≡ true) (omega arith) h.holds;
    before = λ k l m. ⊎_elim (λ (q : i ≡ k). subst (λ z. test z ≡ false) q e)
        (λ (q : suc i ≤ k). h.before k q (omega arith)) (equal_or_above i k l);
    left = ap (λ z. z / 2) (ap (λ z. bits_of test i (suc n) / z) (pow-suc 2 t ∙ mul_comm (2 ^ t) 2)
        ∙ sym (div-div-eq-div-mul (bits_of test i (suc n)) 2 (2 ^ t))
        ∙ ap (λ z. z / 2 ^ t) (lowest (test i) (bits_of test (suc i) n)).1)
        ∙ h.left ∙ ap (λ z. bits_of test z (n - (t + 1))) (omega arith)
        ∙ ap (λ z. bits_of test (i + suc t + 1) z) (omega arith);
  }

  pub next_bit : (n i k : ℕ) → n ≤ k → bits_of test i n ≢ 0 →
      IsNext i n (count_trailing_zeros k (bits_of test i n))
      (bits_of test i n / 2 ^ count_trailing_zeros k (bits_of test i n) / 2)
  next_bit zero i k l m = absurd (m refl)
  next_bit (suc n) i zero l m = absurd (omega arith)
  next_bit (suc n) i (suc k) l m = by (λ z. next_bit n (suc i) k (omega arith) z) (test i) refl
    where
      by : (bits_of test (suc i) n ≢ 0 → IsNext (suc i) n (count_trailing_zeros k (bits_of test (suc i) n))
          (bits_of test (suc i) n / 2 ^ count_trailing_zeros k (bits_of test (suc i) n) / 2)) → (b : Bool) → test i ≡ b →
          IsNext i (suc n) (count_trailing_zeros (suc k) (bits_of test i (suc n)))
          (bits_of test i (suc n) / 2 ^ count_trailing_zeros (suc k) (bits_of test i (suc n)) / 2)
      by self true e =
          subst (λ t. IsNext i (suc n) t (bits_of test i (suc n) / 2 ^ t / 2))
          (sym (zeros_below k (bits_of test i (suc n))
          ∙ ap (λ z. under z (count_trailing_zeros k (bits_of test i (suc n) / 2)))
          ((lowest (test i) (bits_of test (suc i) n)).0 ∙ ap (λ b. cond b 1 0) e)))
          (here n i e)
      by self false e =
          subst (λ t. IsNext i (suc n) t (bits_of test i (suc n) / 2 ^ t / 2))
          (sym (zeros_below k (bits_of test i (suc n))
          ∙ ap (λ z. under z (count_trailing_zeros k (bits_of test i (suc n) / 2)))
          ((lowest (test i) (bits_of test (suc i) n)).0 ∙ ap (λ b. cond b 1 0) e)
          ∙ ap (λ z. suc (count_trailing_zeros k z)) (lowest (test i) (bits_of test (suc i) n)).1))
          (further n i (count_trailing_zeros k (bits_of test (suc i) n)) e
          (self (λ z. m (ap (λ b. cond b 1 0 + 2 * bits_of test (suc i) n) e ∙ omega (arith, z)))))

  pub next_of : (n i bits skip rest : ℕ) → n ≤ 64 → bits ≡ bits_of test i n → 0 < bits → skip ≡ count_trailing_zeros 64 bits →
      rest ≡ bits / 2 ^ skip / 2 → IsNext i n skip rest
  next_of n i bits skip rest l e m s r =
      subst (λ z. IsNext i n skip z) (sym (r ∙ ap (λ z. z / 2 ^ skip / 2) e))
      (subst (λ z. IsNext i n z (bits_of test i n / 2 ^ z / 2)) (sym (s ∙ ap (count_trailing_zeros 64) e))
      (next_bit n i 64 l (λ z. let q = e ∙ z in omega (arith, m, q))))

-- what the test says
pub is_negative : (z : ℤ) → int_lt z (pos 0) ≡ true → z <ℤ pos 0
is_negative z e = omega (arith, ints)

pub not_negative : (z : ℤ) → int_lt z (pos 0) ≡ false → z <ℤ pos 0 → ⊥
not_negative z e l = omega (arith, ints)

-- a number below a place, between it and another, or at that
pub by_place : (P : Type 0) (i a b : ℕ) → i < b + 1 → (i < a → P) → (a ≤ i → i < b → P) → (i ≡ b → P) → P
by_place P i a b l f g h =
    ⊎_elim f (λ (y : a ≤ i). ⊎_elim (λ (z : i ≡ b). h z) (λ (z : i < b). g y z) (equal_or_below i b l)) (below_or i a)
  where
    below_or : (i a : ℕ) → (i < a) ⊎ (a ≤ i)
    below_or i a = grind arith

    equal_or_below : (i b : ℕ) → i < b + 1 → (i ≡ b) ⊎ (i < b)
    equal_or_below i b l = grind arith
