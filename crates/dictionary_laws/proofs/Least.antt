-- The denominator is least exactly where only 1 divides all numbers.
use Rattle.std.proofs.Common.{◌≡◌, ◌≢◌, ◌⊎◌, ℕ, zero, suc, ◌*◌, ◌/◌, ◌<◌, ◌≤◌, List, ℤ, pos, negsuc, ◌*ℤ◌, refl, sym, ap, subst, ◌∙◌, inl, inr, ⊎_elim, arith}
use Prim.Native.Nat.{◌∣◌}
use Rattle.std.specs.Prelude.{◌≤ℤ◌, ◌<ℤ◌, unsigned_abs, int_div}
use Rattle.std.specs.Int.{IsGcd}
use Rattle.std.specs.List.{Contains}
use Rattle.std.proofs.lemmas.Int.{ints, unsigned_abs-mul}
use Rattle.std.proofs.lemmas.Bool.{cases_eq}
use Rattle.std.proofs.lemmas.Nat.Gcd.{dvd-zero, le_of_dvd, IsGcd-swap}
use Rattle.std.proofs.Math.Nat.{dvd-mul_right, one-mul, eq-one_of_dvd-one, div-mul_cancel, mul-dvd-mul_right, dvd_of_mul-dvd-mul_right, mul-div_cancel, mul_right_comm}
use Rattle.poly_num.specs.Divisors.{gcd_of}
use Rattle.poly_num.proofs.Ring.{lin, mul_comm, mul_one}
use Rattle.poly_num.proofs.Order.{zero_factor, keeps_order}
use Rattle.poly_num.proofs.DivisorLemmas.{gcd_of_is, gcd_same, gcd_of-times, gcd_positive, coprime_left, quotient_times}
use Rattle.poly_model.specs.Spaces.{Space, HasPoints}
use Rattle.poly_model.specs.Dictionaries.{Table, IsCobasis, Writes, IsDictionary}
use Rattle.dictionary_laws.specs.Numbers.{IsOwnRow, DividesNumbers, DividesOutside, ArePrimitive, IsGcdOfNumbers, divided}
use Rattle.dictionary_laws.proofs.Members.{contains_or}
use Rattle.dictionary_laws.proofs.Values.{own_row, entries_proportional, constants_proportional}
use Rattle.dictionary_laws.proofs.Multiples.{AreTimes, divisors_write}
use Rattle.dictionary_laws.proofs.Sizes.{size_positive, divisor_positive}

cancel_nat : (g u v : ℕ) → 0 < g → u * g ≡ v * g → u ≡ v
cancel_nat g u v lt e = sym (mul-div_cancel u lt) ∙ ap (λ k. k / g) e ∙ mul-div_cancel v lt

-- m y = n x: what is left of m without the divisors it shares with n divides x
shared_out : (m n x y : ℕ) → 0 < m → m * y ≡ n * x → m / gcd_of m n ∣ x
shared_out m n x y lt e =
    subst (λ (z : ℕ). a ∣ z) whole
    ((gcd_of_is (a * x) (b * x)).2 a (dvd-mul_right a x)
    (subst (λ (z : ℕ). a ∣ z) same (dvd-mul_right a y)))
  where
    g : ℕ
    g = gcd_of m n

    a : ℕ
    a = m / g

    b : ℕ
    b = n / g

    h : IsGcd m n g
    h = gcd_of_is m n

    positive : 0 < g
    positive = gcd_positive n m g lt (IsGcd-swap m n g h)

    whole : gcd_of (a * x) (b * x) ≡ x
    whole = gcd_of-times x a b ∙ ap (λ k. k * x) (sym (gcd_same a b 1 (coprime_left m n g positive h)))
        ∙ one-mul x

    same : a * y ≡ b * x
    same = cancel_nat g (a * y) (b * x) positive
        (mul_right_comm a y g ∙ ap (λ k. k * y) (div-mul_cancel g h.0) ∙ e
        ∙ ap (λ k. k * x) (sym (div-mul_cancel g h.1)) ∙ mul_right_comm b g x)

-- nothing is left of m: it divides n
all_shared : (m n : ℕ) → 0 < m → 0 < n → m / gcd_of m n ≡ 1 → m ≤ n
all_shared m n lt ln e =
    le_of_dvd ln
    (subst (λ (k : ℕ). k ∣ n) (ap (λ k. k * gcd_of m n) (sym e) ∙ div-mul_cancel (gcd_of m n) h.0)
    (subst (λ (k : ℕ). k ∣ n) (sym (one-mul (gcd_of m n))) h.1))
  where
    h : IsGcd m n (gcd_of m n)
    h = gcd_of_is m n

sizes : (d e x y : ℤ) → d *ℤ y ≡ e *ℤ x →
    unsigned_abs d * unsigned_abs y ≡ unsigned_abs e * unsigned_abs x
sizes d e x y h = sym (unsigned_abs-mul d y) ∙ ap unsigned_abs h ∙ unsigned_abs-mul e x

order_of_sizes : (d e : ℤ) → pos 0 <ℤ d → pos 0 <ℤ e → unsigned_abs d ≤ unsigned_abs e → d ≤ℤ e
order_of_sizes (pos m) (pos n) h k l = omega (arith, ints)
order_of_sizes (negsuc m) e h k l = absurd (omega (arith, ints))
order_of_sizes (pos m) (negsuc n) h k l = absurd (omega (arith, ints))

quotient_is : (d : ℕ) (x : ℤ) → d ∣ unsigned_abs x → x ≡ pos d *ℤ int_div x (pos d)
quotient_is d x h = sym (mul_comm (pos d) (int_div x (pos d)) ∙ quotient_times d x h)

-- a common divisor of what is left, times the divisor
times_divisor : (d g : ℕ) (x : ℤ) → g ∣ unsigned_abs x → d ∣ unsigned_abs (int_div x (pos g)) →
    d * g ∣ unsigned_abs x
times_divisor d g x h k =
    subst (λ (n : ℕ). d * g ∣ n)
    (sym (unsigned_abs-mul (int_div x (pos g)) (pos g)) ∙ ap unsigned_abs (quotient_times g x h))
    (mul-dvd-mul_right d k g)

only_one : (d g : ℕ) → 0 < g → d * g ∣ g → d ≡ 1
only_one d g lt h =
    eq-one_of_dvd-one (dvd_of_mul-dvd-mul_right d lt (subst (λ (n : ℕ). d * g ∣ n) (sym (one-mul g)) h))

divides_zero : (d : ℕ) (x : ℤ) → x ≡ pos 0 → d ∣ unsigned_abs x
divides_zero d x e = subst (λ (z : ℤ). d ∣ unsigned_abs z) (sym e) (dvd-zero d)

no_less : (d : ℕ) (q : ℤ) → 0 < d → pos 0 <ℤ q → (pos d *ℤ q) ≤ℤ q → d ≡ 1
no_less zero q lt h l = absurd (omega arith)
no_less (suc zero) q lt h l = refl
no_less (suc (suc d)) q lt h l =
    absurd (
    let k = keeps_order q (pos 1) (pos (suc (suc d))) h (omega (arith, ints)) in
    let m = mul_one q in
    let n = mul_comm q (pos (suc (suc d))) in
    omega (arith, lin))

-- the constants are given by the key: by a point, or they are 0
abbrev pub GivesConstants : Space → Table → Type 0
GivesConstants space t = HasPoints space ⊎ ((i : ℕ) → Contains space.labels i → t.constant i ≡ pos 0)

module _ (space : Space) (key : List ℕ) where
  pub times_divided : (t : Table) (d : ℕ) → DividesNumbers space key t d →
      AreTimes space key (pos d) t (divided t d)
  times_divided t d h = record {
    denominator = quotient_is d t.denominator h.denominator;
    constants = λ i l. quotient_is d (t.constant i) (h.constants i l);
    entries = λ i k l c. quotient_is d (t.entry i k) (h.entries i k l c);
  }

  pub divided_writes : (t : Table) (d : ℕ) → DividesNumbers space key t d → Writes space key t →
      Writes space key (divided t d)
  divided_writes t d h w =
      divisors_write space key (pos d) t (divided t d)
      (let p = divisor_positive d t.denominator w.positive h.denominator in omega (arith, ints))
      (times_divided t d h) w

  pub primitive_where_least : (t : Table) → Writes space key t →
      ((u : Table) → Writes space key u → t.denominator ≤ℤ u.denominator) →
      ArePrimitive space key t
  primitive_where_least t w least d h =
      let v = divided_writes t d h w in
      no_less d (int_div t.denominator (pos d))
      (divisor_positive d t.denominator w.positive h.denominator) v.positive
      (subst (λ (z : ℤ). z ≤ℤ int_div t.denominator (pos d))
      (quotient_is d t.denominator h.denominator) (least (divided t d) v))

  pub least_where_primitive : (t : Table) → GivesConstants space t → IsCobasis space key →
      Writes space key t →
      ArePrimitive space key t → (u : Table) → Writes space key u → t.denominator ≤ℤ u.denominator
  least_where_primitive t given cobasis w only u x =
      order_of_sizes t.denominator u.denominator w.positive x.positive
      (all_shared (unsigned_abs t.denominator) (unsigned_abs u.denominator) lt
      (size_positive u.denominator x.positive)
      (only unshared (record {
        denominator = left t.denominator u.denominator (mul_comm t.denominator u.denominator);
        constants = λ i l. ⊎_elim
            (λ (p : HasPoints space).
            left (t.constant i) (u.constant i) (constants_proportional space key cobasis t u w x p i l))
            (λ (z : (j : ℕ) → Contains space.labels j → t.constant j ≡ pos 0).
            divides_zero unshared (t.constant i) (z i l))
            given;
        entries = λ i k l c.
            left (t.entry i k) (u.entry i k) (entries_proportional space key cobasis t u w x i l k c);
      })))
    where
      lt : 0 < unsigned_abs t.denominator
      lt = size_positive t.denominator w.positive

      unshared : ℕ
      unshared = unsigned_abs t.denominator / gcd_of (unsigned_abs t.denominator)
          (unsigned_abs u.denominator)

      left : (a b : ℤ) → t.denominator *ℤ b ≡ u.denominator *ℤ a → unshared ∣ unsigned_abs a
      left a b e =
          shared_out (unsigned_abs t.denominator) (unsigned_abs u.denominator) (unsigned_abs a)
          (unsigned_abs b) lt
          (sizes t.denominator u.denominator a b e)

  -- the rows of the labels of the key hold the denominator and zeros
  pub divides_all : (t : Table) (d : ℕ) → HasPoints space → IsCobasis space key → Writes space key t →
      DividesOutside space key t d → DividesNumbers space key t d
  divides_all t d p cobasis w h = record {
    denominator = h.denominator;
    constants = λ i l. ⊎_elim
        (λ (c : Contains key i). divides_zero d (t.constant i) (IsOwnRow.constant (own i c) p))
        (λ (n : Contains key i → ⊥). h.constants i l n)
        (contains_or key i);
    entries = λ i k l c. ⊎_elim
        (λ (b : Contains key i). ⊎_elim
        (λ (e : k ≡ i). subst (λ (j : ℕ). d ∣ unsigned_abs (t.entry i j)) (sym e)
        (subst (λ (z : ℤ). d ∣ unsigned_abs z) (sym (IsOwnRow.here (own i b))) h.denominator))
        (λ (n : k ≡ i → ⊥). divides_zero d (t.entry i k) (IsOwnRow.elsewhere (own i b) k c n))
        (cases_eq k i))
        (λ (n : Contains key i → ⊥). h.entries i k l n c)
        (contains_or key i);
  }
    where
      own : (i : ℕ) → Contains key i → IsOwnRow space key t i
      own i c = own_row space key cobasis t w i c

  pub divided_primitive : (t : Table) (g : ℕ) → Writes space key t → IsGcdOfNumbers space key t g →
      ArePrimitive space key (divided t g)
  divided_primitive t g w h d k =
      only_one d g (divisor_positive g t.denominator w.positive h.divides.denominator)
      (h.greatest (d * g) (record {
        denominator = times_divisor d g t.denominator h.divides.denominator k.denominator;
        constants = λ i l. times_divisor d g (t.constant i) (h.divides.constants i l) (k.constants i l);
        entries = λ i j l c. times_divisor d g (t.entry i j) (h.divides.entries i j l c)
            (k.entries i j l c);
      }))

  given_left : (t : Table) (g : ℕ) → Writes space key t → DividesNumbers space key t g →
      GivesConstants space t →
      GivesConstants space (divided t g)
  given_left t g w h given =
      ⊎_elim
      (λ (p : HasPoints space). inl p)
      (λ (z : (i : ℕ) → Contains space.labels i → t.constant i ≡ pos 0).
      inr (λ i l. zero_factor (pos g) (int_div (t.constant i) (pos g))
      (sym (quotient_is g (t.constant i) (h.constants i l)) ∙ z i l)
      (nonzero g (divisor_positive g t.denominator w.positive h.denominator))))
      given
    where
      nonzero : (n : ℕ) → 0 < n → pos n ≢ pos 0
      nonzero n lt e = omega (arith, ints)

  -- what is left of numbers that write the labels over a cobasis is its dictionary
  pub divided_is_dictionary : (t : Table) (g : ℕ) → GivesConstants space t → IsCobasis space key →
      Writes space key t → IsGcdOfNumbers space key t g → IsDictionary space key (divided t g)
  divided_is_dictionary t g given cobasis w h =
      let x = divided_writes t g h.divides w in
      record {
        cobasis = cobasis;
        writes = x;
        least = least_where_primitive (divided t g) (given_left t g w h.divides given) cobasis x
            (divided_primitive t g w h);
      }
