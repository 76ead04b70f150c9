-- The decimal text of a number is digits whose value is the number, with no zero before others; and such a text is the one
-- of its value.
use Rattle.std.proofs.Common.{◌≡◌, ◌<◌, ◌≤◌, ◌+◌, ◌*◌, ◌-◌, ◌/◌, ◌%◌, ◌^◌, ℕ, Bool, true, false, List, [], ◌∷◌, ◌++◌, Some, None, cond, refl, sym, ap, ◌∙◌, arith, append_assoc, append-nil}
use Rattle.std.specs.Prelude.{nat_le}
use Rattle.std.specs.Fmt.{decimal}
use Rattle.std.specs.List.{list_all, fold}
use Rattle.std.proofs.lemmas.Bool.{le-leb, leb-true, and_from, and_parts, ne_eqb, eqb-false}
use Rattle.std.proofs.lemmas.Fmt.{decimal_by_steps_wide, decimal_step_wide, decimal_digit}
use Rattle.std.proofs.lemmas.List.Folds.{list_all-append}
use Rattle.std.proofs.lemmas.List.Sums.{fold-append}
use Rattle.std.proofs.lemmas.Option.{cond_some}
use Rattle.plain_text.specs.Digits.{is_nonempty, is_digit, with_digit_of, value_of, is_count, count_of, leads_with_zero, decimal_of}

-- the text is digits, at least one, of this value, with no zero before others
pub record IsDecimalOf (n : ℕ) (text : List ℕ) : Type 0 where
  pub some : is_nonempty text ≡ true
  pub digits : list_all is_digit text ≡ true
  pub value : value_of text ≡ n
  pub lead : leads_with_zero text ≡ false

pub digit_within : (b : ℕ) → is_digit b ≡ true → (48 ≤ b) × (b ≤ 57)
digit_within b h = let k = and_parts (nat_le 48 b) (nat_le b 57) h in (leb-true 48 b k.0, leb-true b 57 k.1)

digit : (d : ℕ) → d < 10 → is_digit (48 + d) ≡ true
digit d lt = and_from _ _ (le-leb 48 (48 + d) (omega arith)) (le-leb (48 + d) 57 (omega arith))

one_digit : (n : ℕ) → n < 10 → IsDecimalOf n ((48 + n) ∷ [])
unfolding value_of
one_digit n lt = record {
  some = refl;
  digits = rw (digit n lt) refl;
  value = omega arith;
  lead = refl;
}

pub some_more : (text more : List ℕ) → is_nonempty text ≡ true → is_nonempty (text ++ more) ≡ true
some_more [] more e = absurd cc
some_more (b ∷ text) more e = refl

lead_more : (m d : ℕ) (text : List ℕ) → 0 < m → IsDecimalOf m text → leads_with_zero (text ++ d ∷ []) ≡ false
unfolding value_of
lead_more m d [] some h = let no : false ≡ true = h.some in absurd cc
lead_more m d (b ∷ []) some h = let v : 10 * 0 + (b - 48) ≡ m = h.value in ne_eqb b 48 (λ e. omega (arith, e, v, some))
lead_more m d (b ∷ c ∷ text) some h = h.lead

digit_more : (n : ℕ) (text : List ℕ) → 10 ≤ n → IsDecimalOf (n / 10) text → IsDecimalOf n (text ++ (48 + n % 10) ∷ [])
unfolding value_of
digit_more n text le h = record {
  some = some_more text ((48 + n % 10) ∷ []) h.some;
  digits = rw (list_all-append is_digit text ((48 + n % 10) ∷ []), h.digits, digit (n % 10) (omega arith)) refl;
  value =
      fold-append with_digit_of 0 text ((48 + n % 10) ∷ [])
      ∙ ap (λ (v : ℕ). with_digit_of v (48 + n % 10)) h.value
      ∙ back;
  lead = lead_more (n / 10) (48 + n % 10) text (omega arith) h;
}
  where
    back : with_digit_of (n / 10) (48 + n % 10) ≡ n
    back = omega arith

pub decimal_is : (n : ℕ) → n < 2 ^ 127 → IsDecimalOf n (decimal n)
decimal_is n lt = decimal_by_steps_wide IsDecimalOf one_digit digit_more n (omega arith)

pub count_is : (n : ℕ) (text : List ℕ) → IsDecimalOf n text → is_count text ≡ true
count_is n text h = and_from _ _ h.some h.digits

pub count_of_is : (n : ℕ) (text : List ℕ) → IsDecimalOf n text → count_of text ≡ Some n
unfolding count_of
count_of_is n text h = rw (count_is n text h, h.value) refl

-- what is written for a number is read back
pub decimal_of_decimal : (n : ℕ) → n < 2 ^ 127 → decimal_of (decimal n) ≡ Some n
unfolding decimal_of
decimal_of_decimal n lt = let h = decimal_is n lt in rw h.lead (count_of_is n (decimal n) h)

-- ---- a text that is read is the one that is written

grows : (v : ℕ) (text : List ℕ) → v ≤ fold with_digit_of v text
grows v [] = omega arith
grows v (b ∷ text) = omega (arith, grows (with_digit_of v b) text)

-- more digits behind a number that is not 0
digits_behind : (v : ℕ) (text : List ℕ) → 0 < v → list_all is_digit text ≡ true → fold with_digit_of v text < 10 ^ 64
    → decimal v ++ text ≡ decimal (fold with_digit_of v text)
digits_behind v [] some h lt = append-nil (decimal v)
digits_behind v (b ∷ text) some h lt =
    let k = and_parts (is_digit b) (list_all is_digit text) h in
    let w = digit_within b k.0 in
    let m : ℕ = with_digit_of v b in
    let front : m / 10 ≡ v = omega (arith, w.0, w.1) in
    let last : 48 + m % 10 ≡ b = omega (arith, w.0, w.1) in
    let step : decimal m ≡ decimal (m / 10) ++ (48 + m % 10) ∷ [] = decimal_step_wide m (omega arith) (omega (arith, grows m text)) in
    let one : decimal m ≡ decimal v ++ b ∷ [] = step ∙ (λ i. decimal (front i) ++ last i ∷ []) in
    sym (append_assoc (decimal v) (b ∷ []) text) ∙ ap (λ (l : List ℕ). l ++ text) (sym one)
    ∙ digits_behind m text (omega arith) k.1 lt

text_of_digits : (text : List ℕ) → is_nonempty text ≡ true → list_all is_digit text ≡ true → leads_with_zero text ≡ false
    → value_of text < 10 ^ 64 → text ≡ decimal (value_of text)
unfolding value_of
text_of_digits [] some h lead lt = absurd cc
text_of_digits (b ∷ []) some h lead lt =
    let w = digit_within b (and_parts (is_digit b) true h).0 in
    let is : 48 + (10 * 0 + (b - 48)) ≡ b = omega (arith, w.0) in
    sym (decimal_digit (10 * 0 + (b - 48)) (omega (arith, w.1)) ∙ ap (λ (x : ℕ). x ∷ []) is)
text_of_digits (b ∷ c ∷ text) some h lead lt =
    let k = and_parts (is_digit b) (list_all is_digit (c ∷ text)) h in
    let w = digit_within b k.0 in
    let no = eqb-false b 48 lead in
    let is : 48 + (10 * 0 + (b - 48)) ≡ b = omega (arith, w.0) in
    let one : decimal (10 * 0 + (b - 48)) ≡ b ∷ [] =
    decimal_digit (10 * 0 + (b - 48)) (omega (arith, w.1)) ∙ ap (λ (x : ℕ). x ∷ []) is in
    ap (λ (l : List ℕ). l ++ c ∷ text) (sym one)
    ∙ digits_behind (10 * 0 + (b - 48)) (c ∷ text) (omega (arith, w.0, no)) k.1 lt

-- such a text is the one of its value
pub text_of_decimal : (text : List ℕ) (n : ℕ) → decimal_of text ≡ Some n → n < 10 ^ 64 → text ≡ decimal n
unfolding decimal_of count_of
text_of_decimal text n e lt = by (leads_with_zero text) refl (is_count text) refl e
  where
    by : (b : Bool) → leads_with_zero text ≡ b → (d : Bool) → is_count text ≡ d
        → cond b None (cond d (Some (value_of text)) None) ≡ Some n → text ≡ decimal n
    by true l d k e = absurd cc
    by false l false k e = absurd cc
    by false l true k e =
        let is : value_of text ≡ n = (cond_some true (value_of text) n e).1 in
        let h = and_parts (is_nonempty text) (list_all is_digit text) k in
        rw (← is) (text_of_digits text h.0 h.1 l (omega (arith, is, lt)))

-- and it is digits
pub digits_of_decimal : (text : List ℕ) (n : ℕ) → decimal_of text ≡ Some n → list_all is_digit text ≡ true
unfolding decimal_of count_of
digits_of_decimal text n e = by (leads_with_zero text) (is_count text) refl e
  where
    by : (b d : Bool) → is_count text ≡ d → cond b None (cond d (Some (value_of text)) None) ≡ Some n
        → list_all is_digit text ≡ true
    by true d k e = absurd cc
    by false false k e = absurd cc
    by false true k e = (and_parts (is_nonempty text) (list_all is_digit text) k).1
