-- The text of a fraction in lowest terms is one word, and is read back as the fraction.
use Rattle.std.proofs.Common.{◌≡◌, ◌<◌, ◌≤◌, ◌+◌, ◌^◌, ℕ, zero, suc, ℤ, pos, negsuc, Bool, true, false, List, [], ◌∷◌, ◌++◌, Some, Ok, length, take, drop, refl, ap, ◌∙◌, arith, add-one}
use Rattle.std.specs.Prelude.{◌==◌, ◌&&◌, nat_le, ◌<ℤ◌, codes, unsigned_abs}
use Rattle.std.specs.Int.{IsGcd}
use Rattle.std.specs.Fmt.{decimal, signed_decimal}
use Rattle.std.specs.List.{list_all, list_any, position_or_len, before_first, after_first, AllByRecursion}
use Rattle.std.proofs.lemmas.Bool.{and_parts, and_from, leb-true, le-leb, lt-leb, ne_eqb}
use Rattle.std.proofs.lemmas.List.{take_all, take-append-le}
use Rattle.std.proofs.lemmas.List.Folds.{list_all-append}
use Rattle.poly_num.specs.Fractions.{Fraction, IsReduced, lowest}
use Rattle.poly_num.specs.Numbers.{IsNum}
use Rattle.poly_num.proofs.FractionLemmas.{lowest_of_coprime}
use Rattle.poly_num.proofs.Ring.{lin}
use Rattle.poly_model.specs.ListingText.{denominator_text}
use Rattle.plain_text.specs.Digits.{is_nonempty}
use Rattle.poly_reader.specs.Lines.{is_same}
use Rattle.plain_text.specs.Digits.{is_digit, is_negative, signed}
use Rattle.poly_reader.specs.Grammar.{unsigned, is_slash, numerator_of, denominator_of}
use Rattle.poly_reader.specs.Matrix.{sizes_of, number_of}
use Rattle.plain_text.proofs.Decimals.{digit_within, decimal_is, count_of_is, some_more}
use Rattle.text_laws.proofs.PlainWords.{is_plain, IsPlainWord, all_weaker}

-- p, or p/q
abbrev pub number_word : Fraction → List ℕ
number_word f = signed_decimal f.num ++ denominator_text f.den

-- in lowest terms, and both parts within 127 bits and a sign
pub record IsPrintable (f : Fraction) : Type 0 where
  pub reduced : IsReduced f
  pub num : IsNum f.num
  pub den : IsNum f.den

-- ---- digits, and a slash behind them

no_slash : (text : List ℕ) → list_all is_digit text ≡ true → AllByRecursion (λ (b : ℕ). is_slash b ≡ false) text
no_slash [] h = tt
no_slash (b ∷ text) h =
    let k = and_parts (is_digit b) (list_all is_digit text) h in
    let w = digit_within b k.0 in
    (ne_eqb b 47 (λ e. omega (arith, w.0)), no_slash text k.1)

slash_behind : (text more : List ℕ) → AllByRecursion (λ (b : ℕ). is_slash b ≡ false) text
    → position_or_len is_slash (text ++ more) ≡ length text + position_or_len is_slash more
slash_behind [] more h = omega arith
slash_behind (b ∷ text) more h = let k = slash_behind text more h.1 in rw h.0 (omega arith)

any_behind : (text more : List ℕ) → AllByRecursion (λ (b : ℕ). is_slash b ≡ false) text
    → list_any is_slash (text ++ more) ≡ list_any is_slash more
any_behind [] more h = refl
any_behind (b ∷ text) more h = rw h.0 (any_behind text more h.1)

front : (text more : List ℕ) (k : ℕ) → k ≡ length text → take k (text ++ more) ≡ text
front text more k e = take-append-le k text more (omega arith) ∙ take_all k text (omega arith)

before_none : (text : List ℕ) → list_all is_digit text ≡ true → before_first is_slash (text ++ []) ≡ text
before_none text h = front text [] _ (slash_behind text [] (no_slash text h) ∙ omega arith)

before_slash : (text more : List ℕ) → list_all is_digit text ≡ true → before_first is_slash (text ++ 47 ∷ more) ≡ text
before_slash text more h = front text (47 ∷ more) _ (slash_behind text (47 ∷ more) (no_slash text h) ∙ omega arith)

behind : (text more : List ℕ) → drop (suc (length text)) (text ++ 47 ∷ more) ≡ more
behind [] more = refl
behind (b ∷ text) more = behind text more

back : (text more : List ℕ) (k : ℕ) → k ≡ length text → drop (k + 1) (text ++ 47 ∷ more) ≡ more
back text more k e = rw (add-one k, e) (behind text more)

after_slash : (text more : List ℕ) → list_all is_digit text ≡ true → after_first is_slash (text ++ 47 ∷ more) ≡ more
after_slash text more h = back text more _ (slash_behind text (47 ∷ more) (no_slash text h) ∙ omega arith)

-- ---- the sizes of a number

-- the text of a numerator and of what stands behind it
abbrev sizes_text : ℕ → ℕ → List ℕ
sizes_text p q = decimal p ++ denominator_text (pos q)

numerator_read : (p q : ℕ) → p < 2 ^ 127 → numerator_of (sizes_text p q) ≡ Some p
unfolding denominator_text
numerator_read p zero lt =
    let h = decimal_is p lt in rw (before_slash (decimal p) (decimal 0) h.digits) (count_of_is p (decimal p) h)
numerator_read p (suc zero) lt =
    let h = decimal_is p lt in rw (before_none (decimal p) h.digits) (count_of_is p (decimal p) h)
numerator_read p (suc (suc q)) lt =
    let h = decimal_is p lt in
    rw (before_slash (decimal p) (decimal (suc (suc q))) h.digits) (count_of_is p (decimal p) h)

denominator_behind : (p q : ℕ) → p < 2 ^ 127 → q < 2 ^ 127 → denominator_of (decimal p ++ 47 ∷ decimal q) ≡ Some q
denominator_behind p q lt below =
    let h = decimal_is p lt in
    rw (
      any_behind (decimal p) (47 ∷ decimal q) (no_slash (decimal p) h.digits),
      after_slash (decimal p) (decimal q) h.digits,
    )
    (count_of_is q (decimal q) (decimal_is q below))

denominator_read : (p q : ℕ) → p < 2 ^ 127 → q < 2 ^ 127 → denominator_of (sizes_text p q) ≡ Some q
unfolding denominator_text
denominator_read p zero lt below = denominator_behind p 0 lt below
denominator_read p (suc zero) lt below =
    let h = decimal_is p lt in rw (any_behind (decimal p) [] (no_slash (decimal p) h.digits)) refl
denominator_read p (suc (suc q)) lt below = denominator_behind p (suc (suc q)) lt below

sizes_read : (p q : ℕ) → p < 2 ^ 127 → 0 < q → q < 2 ^ 127 → sizes_of (Some p) (Some q) ≡ Ok (p, q)
sizes_read p q lt some below =
    rw (ne_eqb q 0 (λ e. omega arith), lt-leb (2 ^ 127) p lt, lt-leb (2 ^ 127) q below) refl

-- ---- the sign, and the number

-- a text that begins with a digit has no sign
no_sign : (text more : List ℕ) → is_nonempty text ≡ true → list_all is_digit text ≡ true
    → (is_negative (text ++ more) ≡ false) × (unsigned (text ++ more) ≡ text ++ more)
no_sign [] more some h = absurd cc
no_sign (b ∷ text) more some h =
    let w = digit_within b (and_parts (is_digit b) (list_all is_digit text) h).0 in
    let plus : (b == 43) ≡ false = ne_eqb b 43 (λ e. omega (arith, w.0)) in
    let minus : (b == 45) ≡ false = ne_eqb b 45 (λ e. omega (arith, w.0)) in
    (minus, rw (plus, minus) refl)

number_from_parts : (negative : Bool) (p q : ℕ) (text : List ℕ) → is_negative text ≡ negative
    → unsigned text ≡ sizes_text p q
    → p < 2 ^ 127 → 0 < q → q < 2 ^ 127 → number_of text ≡ Ok (lowest (signed negative p) (pos q))
unfolding number_of
number_from_parts negative p q text sign rest lt some below =
    rw (sign, rest, numerator_read p q lt, denominator_read p q lt below, sizes_read p q lt some below) refl

pub number_read : (f : Fraction) → IsPrintable f → number_of (number_word f) ≡ Ok f
number_read f h = by f.num f.den h.reduced.positive h.reduced.coprime h.num h.den
  where
    by : (num den : ℤ) → pos 0 <ℤ den → IsGcd (unsigned_abs num) (unsigned_abs den) 1 → IsNum num → IsNum den
        → number_of (signed_decimal num ++ denominator_text den) ≡ Ok (record { num = num; den = den })
    by num (negsuc q) some coprime lt below = absurd (omega (arith, lin))
    by (pos p) (pos q) some coprime lt below =
        let d = decimal_is p lt in
        let s = no_sign (decimal p) (denominator_text (pos q)) d.some d.digits in
        number_from_parts false p q (sizes_text p q) s.0 s.1 lt (omega (arith, lin)) below
        ∙ ap (λ (x : Fraction). Ok x) (lowest_of_coprime (pos p) (pos q) some coprime)
    by (negsuc p) (pos q) some coprime lt below =
        number_from_parts true (suc p) q (45 ∷ sizes_text (suc p) q) refl refl lt (omega (arith, lin)) below
        ∙ ap (λ (x : Fraction). Ok x) (lowest_of_coprime (negsuc p) (pos q) some coprime)

-- ---- the word

-- a digit, the minus sign or the slash
abbrev is_number_byte : ℕ → Bool
is_number_byte b = nat_le 45 b && nat_le b 57

from_digit : (b : ℕ) → is_digit b ≡ true → is_number_byte b ≡ true
from_digit b h =
    let w = digit_within b h in and_from (nat_le 45 b) (nat_le b 57) (le-leb 45 b (omega (arith, w.0))) (le-leb b 57 w.1)

plain_byte : (b : ℕ) → is_number_byte b ≡ true → is_plain b ≡ true
plain_byte b h =
    let k = and_parts (nat_le 45 b) (nat_le b 57) h in
    let low = leb-true 45 b k.0 in
    rw (
      ne_eqb b 32 (λ e. omega arith),
      ne_eqb b 9 (λ e. omega arith),
      ne_eqb b 13 (λ e. omega arith),
      ne_eqb b 10 (λ e. omega arith),
    ) refl

decimal_bytes : (n : ℕ) → n < 2 ^ 127 → list_all is_number_byte (decimal n) ≡ true
decimal_bytes n lt = all_weaker is_digit is_number_byte from_digit (decimal n) (decimal_is n lt).digits

signed_bytes : (z : ℤ) → IsNum z → list_all is_number_byte (signed_decimal z) ≡ true
signed_bytes (pos n) lt = decimal_bytes n lt
signed_bytes (negsuc n) lt = decimal_bytes (suc n) lt

denominator_bytes : (z : ℤ) → IsNum z → list_all is_number_byte (denominator_text z) ≡ true
unfolding denominator_text
denominator_bytes (pos zero) lt = signed_bytes (pos zero) lt
denominator_bytes (pos (suc zero)) lt = refl
denominator_bytes (pos (suc (suc n))) lt = signed_bytes (pos (suc (suc n))) lt
denominator_bytes (negsuc n) lt = signed_bytes (negsuc n) lt

signed_some : (z : ℤ) → IsNum z → is_nonempty (signed_decimal z) ≡ true
signed_some (pos n) lt = (decimal_is n lt).some
signed_some (negsuc n) lt = refl

word_bytes : (f : Fraction) → IsPrintable f → list_all is_number_byte (number_word f) ≡ true
word_bytes f h =
    rw (list_all-append is_number_byte (signed_decimal f.num) (denominator_text f.den), signed_bytes f.num h.num)
    (denominator_bytes f.den h.den)

word_some : (f : Fraction) → IsPrintable f → is_nonempty (number_word f) ≡ true
word_some f h = some_more (signed_decimal f.num) (denominator_text f.den) (signed_some f.num h.num)

pub number_word_plain : (f : Fraction) → IsPrintable f → IsPlainWord (number_word f)
number_word_plain f h = record {
  some = word_some f h;
  bytes = all_weaker is_number_byte is_plain plain_byte (number_word f) (word_bytes f h);
}

not_end : (text : List ℕ) → list_all is_number_byte text ≡ true → is_same text (codes "end") ≡ false
not_end [] h = refl
not_end (b ∷ text) h =
    let k = and_parts (is_number_byte b) (list_all is_number_byte text) h in
    let high = leb-true b 57 (and_parts (nat_le 45 b) (nat_le b 57) k.0).1 in
    rw (ne_eqb b 101 (λ e. omega arith)) refl

pub number_word_not_end : (f : Fraction) → IsPrintable f → is_same (number_word f) (codes "end") ≡ false
number_word_not_end f h = not_end (number_word f) (word_bytes f h)

pub decimal_plain : (n : ℕ) → n < 2 ^ 127 → IsPlainWord (decimal n)
decimal_plain n lt = record {
  some = (decimal_is n lt).some;
  bytes = all_weaker is_number_byte is_plain plain_byte (decimal n) (decimal_bytes n lt);
}
