-- Words that are counts and signed numbers, read from their digits.
use Rattle.std.proofs.Common.{◌≡◌, ◌<◌, ◌^◌, ℕ, zero, suc, ℤ, pos, negsuc, Bool, true, false, List, [], ◌∷◌, Option, Some, None, drop, refl, sym, ap, ◌∙◌, ◌⊎◌, inl, arith}
use Rattle.std.specs.Prelude.{◌==◌, option_map, unsigned_abs, cond}
use Rattle.std.specs.Fmt.{decimal, signed_decimal}
use Rattle.std.specs.List.{list_all}
use Rattle.std.proofs.lemmas.Bool.{and_parts, ne_eqb, eqb-true}
use Rattle.std.proofs.lemmas.Option.{same_Some, none-some}
use Rattle.poly_num.specs.Numbers.{IsNum}
use Rattle.plain_text.specs.Cuts.{Lacks}
use Rattle.plain_text.specs.Digits.{is_digit, decimal_of, count_of, capped, leads_with_zero, is_negative, without_minus, signed}
use Rattle.plain_text.proofs.Decimals.{decimal_is, decimal_of_decimal, text_of_decimal, digit_within, digits_of_decimal}

pub decimal_of_zero : (text : List ℕ) → leads_with_zero text ≡ true → decimal_of text ≡ None
unfolding decimal_of
decimal_of_zero text e = rw e refl

pub decimal_of_count : (text : List ℕ) → leads_with_zero text ≡ false → decimal_of text ≡ count_of text
unfolding decimal_of
decimal_of_count text e = rw e refl

-- a value below the cap is the value
pub uncapped : (o : Option ℕ) (n : ℕ) → option_map capped o ≡ Some n → n < 2 ^ 127 → o ≡ Some n
uncapped None n e lt = absurd (none-some n e)
uncapped (Some m) n e lt = let k = same_Some (capped m) n e in ap (λ (x : ℕ). Some x) (omega (arith, k, lt))

-- what is read and below the cap is the text of the number
pub is_decimal : (text : List ℕ) (n : ℕ) → option_map capped (decimal_of text) ≡ Some n → n < 2 ^ 127 → text ≡ decimal n
is_decimal text n e lt = text_of_decimal text n (uncapped (decimal_of text) n e lt) (omega (arith, lt))

-- the text of a number is read as it
pub reads_decimal : (text : List ℕ) (n : ℕ) → text ≡ decimal n → n < 2 ^ 127 → option_map capped (decimal_of text) ≡ Some n
reads_decimal text n e lt =
    ap (λ (l : List ℕ). option_map capped (decimal_of l)) e ∙ ap (λ (o : Option ℕ). option_map capped o) (decimal_of_decimal n lt)
    ∙ ap (λ (x : ℕ). Some x) (omega (arith, lt))

-- ---- a sign

no_minus : (text : List ℕ) → list_all is_digit text ≡ true → (is_negative text ≡ false) × (without_minus text ≡ text)
no_minus [] h = (refl, refl)
no_minus (b ∷ text) h =
    let w = digit_within b (and_parts (is_digit b) (list_all is_digit text) h).0 in
    let k : (b == 45) ≡ false = ne_eqb b 45 (λ e. omega (arith, e, w.0)) in
    (k, rw k refl)

-- what is read behind the sign is the size of the number whose text it is
pub reads_signed : (word : List ℕ) (z : ℤ) → IsNum z → word ≡ signed_decimal z
    → (option_map capped (decimal_of (without_minus word)) ≡ Some (unsigned_abs z)) × (is_negative word ≡ true → 0 < unsigned_abs z)
reads_signed word (pos n) lt e =
    let k = no_minus (decimal n) (decimal_is n lt).digits in
    (rw (e, k.1) (reads_decimal (decimal n) n refl lt), λ h. absurd (by (sym (rw e at h) ∙ k.0)))
  where
    by : true ≡ false → ⊥
    by e = cc
reads_signed word (negsuc n) lt e = (rw e (reads_decimal (decimal (suc n)) (suc n) refl lt), λ h. omega arith)

negative_text : (text : List ℕ) (size : ℕ) → text ≡ decimal size → 0 < size → 45 ∷ text ≡ signed_decimal (signed true size)
negative_text text zero e some = absurd (omega (arith, some))
negative_text text (suc k) e some = ap (λ (l : List ℕ). 45 ∷ l) e

-- and the text is that of the number of this sign and size
pub is_signed : (word : List ℕ) (size : ℕ) → option_map capped (decimal_of (without_minus word)) ≡ Some size → size < 2 ^ 127
    → (is_negative word ≡ true → 0 < size) → word ≡ signed_decimal (signed (is_negative word) size)
is_signed [] size e lt some = is_decimal [] size e lt
is_signed (b ∷ text) size e lt some = by (b == 45) refl e some
  where
    by : (d : Bool) → (b == 45) ≡ d → option_map capped (decimal_of (cond d text (b ∷ text))) ≡ Some size
        → (d ≡ true → 0 < size) → b ∷ text ≡ signed_decimal (signed d size)
    by true k e some =
        ap (λ (x : ℕ). x ∷ text) (eqb-true b 45 k) ∙ negative_text text size (is_decimal text size e lt) (some refl)
    by false k e some = is_decimal (b ∷ text) size e lt

pub signed_is_num : (negative : Bool) (size : ℕ) → size < 2 ^ 127 → IsNum (signed negative size)
signed_is_num true zero lt = lt
signed_is_num true (suc k) lt = lt
signed_is_num false size lt = lt

-- ---- texts tell numbers apart

pub decimal_tells : (m n : ℕ) → m < 2 ^ 127 → n < 2 ^ 127 → decimal m ≡ decimal n → m ≡ n
decimal_tells m n p q e =
    same_Some m n (sym (decimal_of_decimal m p) ∙ ap decimal_of e ∙ decimal_of_decimal n q)

no_minus_sign : (m n : ℕ) → m < 2 ^ 127 → decimal m ≡ 45 ∷ decimal (suc n) → ⊥
no_minus_sign m n lt e =
    let k = (no_minus (decimal m) (decimal_is m lt).digits).0 in
    let h : false ≡ true = sym k ∙ ap is_negative e in cc

pub signed_decimal_tells : (y z : ℤ) → IsNum y → IsNum z → signed_decimal y ≡ signed_decimal z → y ≡ z
signed_decimal_tells (pos m) (pos n) p q e = ap (λ (x : ℕ). pos x) (decimal_tells m n p q e)
signed_decimal_tells (pos m) (negsuc n) p q e = absurd (no_minus_sign m n p e)
signed_decimal_tells (negsuc m) (pos n) p q e = absurd (no_minus_sign n m q (sym e))
signed_decimal_tells (negsuc m) (negsuc n) p q e =
    let k = decimal_tells (suc m) (suc n) p q (ap (λ (l : List ℕ). drop 1 l) e) in
    ap (λ (x : ℕ). negsuc x) (omega (arith, k))

-- ---- what is in no number's text

digits_lack : (byte : ℕ) → (byte < 48) ⊎ (57 < byte) → (text : List ℕ) → list_all is_digit text ≡ true → Lacks byte text
digits_lack byte h [] d = tt
digits_lack byte h (b ∷ text) d =
    let k = and_parts (is_digit b) (list_all is_digit text) d in
    let w = digit_within b k.0 in
    ((λ e. omega (arith, e, h, w.0, w.1)), digits_lack byte h text k.1)

pub digits_have_none : (byte n : ℕ) (text : List ℕ) → decimal_of text ≡ Some n → (byte < 48) ⊎ (57 < byte) → Lacks byte text
digits_have_none byte n text e h = digits_lack byte h text (digits_of_decimal text n e)

pub decimal_lacks : (byte n : ℕ) → n < 2 ^ 127 → (byte < 48) ⊎ (57 < byte) → Lacks byte (decimal n)
decimal_lacks byte n lt h = digits_lack byte h (decimal n) (decimal_is n lt).digits

pub signed_lacks : (byte : ℕ) (z : ℤ) → IsNum z → byte < 45 → Lacks byte (signed_decimal z)
signed_lacks byte (pos n) lt small = decimal_lacks byte n lt (inl (omega arith))
signed_lacks byte (negsuc n) lt small = ((λ e. omega (arith, e, small)), decimal_lacks byte (suc n) lt (inl (omega arith)))
