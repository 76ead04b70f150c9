-- Numbers with which a text begins, before a blank or the end.
use Rattle.std.proofs.Common.{◌≡◌, ◌<◌, ◌^◌, ◌-◌, ℕ, ℤ, Bool, true, false, List, [], ◌∷◌, ◌++◌, Option, None, Some, pos, length, refl, sym, ap, ◌∙◌, cond, arith}
use Rattle.std.specs.Prelude.{◌==◌, option_map}
use Rattle.std.specs.Fmt.{signed_decimal}
use Rattle.std.proofs.lemmas.Bool.{eqb-true}
use Rattle.std.proofs.lemmas.Option.{none-some}
use Rattle.poly_num.specs.Numbers.{IsNum}
use Rattle.plain_text.specs.Cuts.{GoesOnWith, CutsWord}
use Rattle.plain_text.specs.Digits.{is_digit, value_of, decimal_of, count_of, is_negative, without_minus, signed, capped}
use Rattle.plain_text.specs.Texts.{BeginsWithDecimal}
use Rattle.plain_text.proofs.CutLemmas.{one_cut}
use Rattle.plain_text.proofs.NumberLemmas.{is_decimal, is_signed, signed_lacks}

no_decimal : decimal_of [] ≡ None
unfolding decimal_of count_of
no_decimal = refl

below_the_cap : (digits : List ℕ) (size : ℕ) → decimal_of digits ≡ Some size → size < 2 ^ 127
    → option_map capped (decimal_of digits) ≡ Some size
below_the_cap digits size read lt =
    ap (λ (o : Option ℕ). option_map capped o) read ∙ ap (λ (n : ℕ). Some n) (omega (arith, lt))

signed_in_front : (text digits rest : List ℕ) (size : ℕ) → without_minus text ≡ digits ++ rest → decimal_of digits ≡ Some size
    → size < 2 ^ 127 → (is_negative text ≡ true → 0 < size) → text ≡ signed_decimal (signed (is_negative text) size) ++ rest
signed_in_front [] [] rest size e read lt some = absurd (none-some size (sym no_decimal ∙ read))
signed_in_front [] (d ∷ digits) rest size e read lt some = absurd (omega (arith, ap (λ (l : List ℕ). length l) e))
signed_in_front (b ∷ text) digits rest size e read lt some = by (b == 45) refl e some
  where
    by : (minus : Bool) → (b == 45) ≡ minus → cond minus text (b ∷ text) ≡ digits ++ rest → (minus ≡ true → 0 < size)
        → b ∷ text ≡ signed_decimal (signed minus size) ++ rest
    by true k e some =
        (λ i. eqb-true b 45 k i ∷ e i)
        ∙ ap (λ (l : List ℕ). l ++ rest) (is_signed (45 ∷ digits) size (below_the_cap digits size read lt) lt some)
    by false k e some = e ∙ ap (λ (l : List ℕ). l ++ rest) (is_decimal digits size (below_the_cap digits size read lt) lt)

pub one_digit : (d : ℕ) → is_digit d ≡ true → decimal_of (d ∷ []) ≡ Some (d - 48)
unfolding decimal_of count_of value_of
one_digit d h = rw h (ap (λ (n : ℕ). Some n) (omega arith))

-- where the digits of the size stand behind the sign, the number stands in front
pub front_is_signed : (text rest : List ℕ) (size : ℕ) → BeginsWithDecimal (without_minus text) size rest
    → size < 2 ^ 127 → (is_negative text ≡ true → 0 < size) → text ≡ signed_decimal (signed (is_negative text) size) ++ rest
front_is_signed text rest size h lt some = signed_in_front text h.digits rest size h.whole h.reads lt some

-- where the digits of the size stand in front, so does the number
pub front_is_decimal : (text rest : List ℕ) (size : ℕ) → BeginsWithDecimal text size rest → size < 2 ^ 127
    → text ≡ signed_decimal (pos size) ++ rest
front_is_decimal text rest size h lt =
    h.whole ∙ ap (λ (l : List ℕ). l ++ rest) (is_decimal h.digits size (below_the_cap h.digits size h.reads lt) lt)

-- a digit in front is the number of its value there
pub digit_is_number : (d : ℕ) (rest : List ℕ) → is_digit d ≡ true → d - 48 < 2 ^ 127 → d ∷ rest ≡ signed_decimal (pos (d - 48)) ++ rest
digit_is_number d rest h lt =
    ap (λ (l : List ℕ). l ++ rest) (is_decimal (d ∷ []) (d - 48) (below_the_cap (d ∷ []) (d - 48) (one_digit d h) lt) lt)

-- a word that is the text of no number is in front of no other text that is one
pub no_number_in_front : (text word rest : List ℕ) → CutsWord text word rest → ((z : ℤ) → IsNum z → word ≡ signed_decimal z → ⊥)
    → (z : ℤ) (more : List ℕ) → IsNum z → GoesOnWith 32 more → text ≡ signed_decimal z ++ more → ⊥
no_number_in_front text word rest cuts none z more num goes_on is =
    none z num
    (one_cut 32 word rest (signed_decimal z) more cuts.lacks cuts.goes_on (signed_lacks 32 z num (omega arith)) goes_on
    (sym cuts.whole ∙ is)).0
