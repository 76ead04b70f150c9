-- The least common denominator, the common divisor of the numerators, and the entries, one after the other.
use Rattle.std.proofs.Common.{◌≡◌, ◌<◌, ◌≤◌, ◌+◌, ◌*◌, ◌/◌, ◌^◌, ℕ, ℤ, Option, Some, None, true, false, max, inl, inr, ◌++◌, Result, Ok, Err, List, [], ◌∷◌, length, take, drop, get_or, map, refl, sym, ap, ◌∙◌, arith}
use Rattle.std.specs.Prelude.{unsigned_abs, IfOk, IfSome}
use Rattle.std.specs.Option.{SomeIff}
use Rattle.std.specs.List.{list_any}
use Rattle.std.proofs.lemmas.Bool.{cases_lt, lt-leb, le-leb}
use Rattle.std.proofs.lemmas.List.{get_or-map, length-map, map_push, take_more, take_all}
use Rattle.std.proofs.lemmas.List.Folds.{list_any-append, list_any_at}
use Rattle.std.proofs.lemmas.List.Sums.{fold_more}
use Rattle.std.proofs.Math.Nat.{one-dvd}
use Rattle.poly_num.specs.Numbers.{IsNum}
use Rattle.poly_num.specs.Vectors.{Vector}
use Rattle.poly_num.specs.Divisors.{gcd_of, gcd_of_all}
use Rattle.poly_num.specs.Fractions.{Fraction}
use Rattle.poly_num.proofs.DivisorLemmas.{gcd_same, gcd_of_comm, gcd_of_is, gcd_positive, zero-gcd_of}
use Rattle.poly_num.proofs.PrimitiveLemmas.{gcd_along, gcd_at_end}
use Rattle.poly_reader.specs.Scaling.{lcm_of, size_of_den, common_den, numerators, entry_of, scaled_entries, is_wide_row, is_wide_entry, IsDen, IsCapped, AreEntries, AreScaledEntries}
use Rattle.poly_reader.proofs.Multiples.{lcm_at_least}

-- ---- greatest common divisors with 1

pub one-gcd_of : (b : ℕ) → 1 ≡ gcd_of 1 b
one-gcd_of b = gcd_same 1 b 1 (one-dvd 1, one-dvd b, λ d p q. p)

pub gcd_of-one : (a : ℕ) → 1 ≡ gcd_of a 1
gcd_of-one a = one-gcd_of a ∙ gcd_of_comm 1 a

-- ---- the numerators

pub divisor_starts : (row : List Fraction) → gcd_of 0 (gcd_of_all (numerators row)) ≡ gcd_of_all (numerators row)
divisor_starts row = zero-gcd_of (gcd_of_all (numerators row))

pub divisor_more : (g i : ℕ) (row : List Fraction) (f : Fraction) → i < length row → f ≡ get_or row i f
    → gcd_of (gcd_of g (unsigned_abs f.num)) (gcd_of_all (drop (i + 1) (numerators row)))
    ≡ gcd_of g (gcd_of_all (drop i (numerators row)))
divisor_more g i row f lt e =
    gcd_along g i (numerators row) f.num (omega (arith, length-map row (λ (x : Fraction). x.num)))
    (ap (λ (x : Fraction). x.num) e ∙ sym (get_or-map (λ (x : Fraction). x.num) row i f f.num lt))

pub divisor_ends : (g i : ℕ) (row : List Fraction) → length row ≤ i
    → gcd_of g (gcd_of_all (drop i (numerators row))) ≡ gcd_of_all (numerators row) → g ≡ gcd_of_all (numerators row)
divisor_ends g i row le e =
    sym (gcd_at_end g i (numerators row) (omega (arith, length-map row (λ (x : Fraction). x.num)))) ∙ e

-- ---- least common multiples

pub lcm_is : (a b m : ℕ) → m ≡ a / gcd_of a b * b → m ≡ lcm_of a b
unfolding lcm_of
lcm_is a b m e = e

pub divisor_positive : (a b : ℕ) → 0 < b → 0 < gcd_of a b
divisor_positive a b lt = gcd_positive a b (gcd_of a b) lt (gcd_of_is a b)

-- ---- the least common denominator

pub den_starts : IsCapped (common_den []) (Some 1)
unfolding common_den
den_starts = (omega arith, (omega arith, refl))

pub den_more : (row : List Fraction) (i : ℕ) (f : Fraction) → i < length row → f ≡ get_or row i f
    → common_den (take (i + 1) row) ≡ lcm_of (common_den (take i row)) (size_of_den f)
unfolding common_den
den_more row i f lt e =
    fold_more (λ (q : ℕ) (f : Fraction). lcm_of q (size_of_den f)) 1 row i f lt ∙ rw (← e) refl

pub dens_from_capped : (n : ℕ) (q : Option ℕ) → IsCapped n q → IfSome q IsDen
dens_from_capped n None h = tt
dens_from_capped n (Some q) h = record { positive = omega (arith, h.0, h.1.1); within = omega (arith, h.1.0, h.1.1) }

pub next_some : (n q b : ℕ) (o : Option ℕ) → 0 < b → IsCapped n (Some q)
    → SomeIff o (lcm_of q b < 2 ^ 127) (lcm_of q b) → IsCapped (lcm_of n b) o
next_some n q b o lt h s = let le = lcm_at_least n b lt in (omega (arith, h.0), rw (← h.1.1) s)

pub next_none : (n b : ℕ) → 0 < b → IsCapped n None → IsCapped (lcm_of n b) None
next_none n b lt h = let le = lcm_at_least n b lt in (omega (arith, h.0), λ less. h.1 (omega arith))

-- ---- the entries

narrow : (z : ℤ) → IsNum z → is_wide_entry z ≡ false
narrow z h = lt-leb (2 ^ 127) (unsigned_abs z) h

wide : (z : ℤ) → (IsNum z → ⊥) → is_wide_entry z ≡ true
wide z h =
    elim (cases_lt (unsigned_abs z) (2 ^ 127))
    [ inl lt ↦ absurd (h lt) | inr le ↦ le-leb (2 ^ 127) (unsigned_abs z) le ]

pub entries_start : (p q : ℕ) (row : List Fraction) (es : Vector) → es ≡ [] → AreEntries p q (take 0 row) (Some es)
entries_start p q row es e = (refl, e)

pub entries_more : (p q i : ℕ) (row : List Fraction) (f : Fraction) (es more : Vector) (z : ℤ) → i < length row
    → f ≡ get_or row i f → IsNum (entry_of p q f) → z ≡ entry_of p q f → more ≡ es ++ z ∷ []
    → AreEntries p q (take i row) (Some es) → AreEntries p q (take (i + 1) row) (Some more)
entries_more p q i row f es more z lt e num is m at =
    let t : take (i + 1) row ≡ take i row ++ f ∷ [] =
    take_more row i f lt ∙ ap (λ (x : Fraction). take i row ++ x ∷ []) (sym e) in
    rw (
      t,
      map_push (entry_of p q) (take i row) f,
      list_any-append is_wide_entry (map (entry_of p q) (take i row)) (entry_of p q f ∷ []),
      at.0,
      narrow (entry_of p q f) num,
    ) (refl, m ∙ rw (at.1, is) refl)

pub entries_stop : (p q i : ℕ) (row : List Fraction) (f : Fraction) → i < length row → f ≡ get_or row i f
    → (IsNum (entry_of p q f) → ⊥) → list_any is_wide_entry (map (entry_of p q) row) ≡ true
entries_stop p q i row f lt e no_num =
    list_any_at is_wide_entry (map (entry_of p q) row) i (entry_of p q f)
    (omega (arith, length-map row (entry_of p q)))
    (rw (get_or-map (entry_of p q) row i f (entry_of p q f) lt, ← e) (wide (entry_of p q f) no_num))

pub entries_end : (p q i : ℕ) (row : List Fraction) (es : Vector) → length row ≤ i
    → AreEntries p q (take i row) (Some es) → AreEntries p q row (Some es)
entries_end p q i row es le at = rw (take_all i row le) at at

-- ---- the row

pub row_scaled : (row : List Fraction) (p q : ℕ) (o : Option Vector) → IsCapped (common_den row) (Some q)
    → p ≡ max (gcd_of_all (numerators row)) 1 → AreEntries p q row o → AreScaledEntries row o
unfolding scaled_entries is_wide_row
row_scaled row p q None c e at = rw (lt-leb (2 ^ 127) (common_den row) c.1.0) (rw (c.1.1, e) at at)
row_scaled row p q (Some es) c e at =
    let h = rw (c.1.1, e) at at in
    rw (lt-leb (2 ^ 127) (common_den row) c.1.0) h

pub row_wide : (row : List Fraction) → IsCapped (common_den row) None → is_wide_row row ≡ true
unfolding is_wide_row
row_wide row c = elim (cases_lt (common_den row) (2 ^ 127)) [
  | inl lt ↦ absurd (c.1 lt)
  | inr le ↦ rw (le-leb (2 ^ 127) (common_den row) le) refl
]

pub ok_weaker : {T E : Type 0} (P Q : T → Type 0) (r : Result T E) → ((x : T) → P x → Q x) → IfOk r P → IfOk r Q
ok_weaker P Q (Ok x) f h = f x h
ok_weaker P Q (Err e) f h = h

pub length-scaled_entries : (row : List Fraction) → length (scaled_entries row) ≡ length row
unfolding scaled_entries
length-scaled_entries row = length-map row (entry_of (max (gcd_of_all (numerators row)) 1) (common_den row))
