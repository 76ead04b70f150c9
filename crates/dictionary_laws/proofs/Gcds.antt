-- The numbers of a table have a greatest common divisor.
use Rattle.std.proofs.Common.{ℕ, List, [], ◌∷◌}
use Prim.Native.Nat.{◌∣◌}
use Rattle.std.specs.Prelude.{unsigned_abs}
use Rattle.std.specs.List.{Contains}
use Rattle.std.proofs.lemmas.Nat.Gcd.{dvd_trans, dvd-zero}
use Rattle.poly_num.specs.Divisors.{gcd_of}
use Rattle.poly_num.proofs.DivisorLemmas.{gcd_of_is}
use Rattle.poly_model.specs.Spaces.{Space}
use Rattle.poly_model.specs.Dictionaries.{Table}
use Rattle.dictionary_laws.specs.Numbers.{IsGcdOfNumbers}
use Rattle.linear_laws.proofs.Members.{Contains-first, Contains-later, Contains-nil}
use Rattle.dictionary_laws.proofs.Members.{by_cases}

-- the greatest common divisor of the sizes f k
abbrev pub gcd_over : List ℕ → (ℕ → ℕ) → ℕ
gcd_over [] f = 0
gcd_over (k ∷ ks) f = gcd_of (f k) (gcd_over ks f)

pub gcd_over_divides : (ks : List ℕ) (f : ℕ → ℕ) (k : ℕ) → Contains ks k → gcd_over ks f ∣ f k
gcd_over_divides [] f k c = absurd (Contains-nil k c)
gcd_over_divides (x ∷ ks) f k c =
    let h = gcd_of_is (f x) (gcd_over ks f) in
    by_cases (λ j. gcd_over (x ∷ ks) f ∣ f j) x ks h.0
    (λ j i. dvd_trans (gcd_over (x ∷ ks) f) h.1 (gcd_over_divides ks f j i)) k c

pub dvd-gcd_over : (d : ℕ) (ks : List ℕ) (f : ℕ → ℕ) → ((k : ℕ) → Contains ks k → d ∣ f k) →
    d ∣ gcd_over ks f
dvd-gcd_over d [] f h = dvd-zero d
dvd-gcd_over d (x ∷ ks) f h =
    (gcd_of_is (f x) (gcd_over ks f)).2 d (h x (Contains-first x ks))
    (dvd-gcd_over d ks f (λ k c. h k (Contains-later k x ks c)))

module _ (space : Space) (key : List ℕ) (t : Table) where
  gcd_of_row : ℕ → ℕ
  gcd_of_row i = gcd_over key (λ k. unsigned_abs (t.entry i k))

  with_constant : ℕ → ℕ
  with_constant i = gcd_of (unsigned_abs (t.constant i)) (gcd_of_row i)

  pub gcd_of_numbers : ℕ
  gcd_of_numbers = gcd_of (unsigned_abs t.denominator) (gcd_over space.labels with_constant)

  pub gcd_of_numbers_is : IsGcdOfNumbers space key t gcd_of_numbers
  unfolding gcd_of_numbers with_constant gcd_of_row
  gcd_of_numbers_is =
      let h = gcd_of_is (unsigned_abs t.denominator) (gcd_over space.labels with_constant) in
      record {
        divides = record {
          denominator = h.0;
          constants = λ i l.
              dvd_trans _ (dvd_trans _ h.1 (gcd_over_divides space.labels with_constant i l))
              (gcd_of_is (unsigned_abs (t.constant i)) (gcd_of_row i)).0;
          entries = λ i k l c.
              dvd_trans _
              (dvd_trans _ (dvd_trans _ h.1 (gcd_over_divides space.labels with_constant i l))
              (gcd_of_is (unsigned_abs (t.constant i)) (gcd_of_row i)).1)
              (gcd_over_divides key (λ j. unsigned_abs (t.entry i j)) k c);
        };
        greatest = λ d k.
            h.2 d k.denominator
            (dvd-gcd_over d space.labels with_constant (λ i l.
            (gcd_of_is (unsigned_abs (t.constant i)) (gcd_of_row i)).2 d (k.constants i l)
            (dvd-gcd_over d key (λ j. unsigned_abs (t.entry i j)) (λ j c. k.entries i j l c))));
      }
