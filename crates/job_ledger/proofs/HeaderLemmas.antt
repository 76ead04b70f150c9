-- Decimal digits and their value.
use Rattle.std.proofs.Common.{◌≡◌, ◌<◌, ◌+◌, ◌-◌, ◌*◌, ◌/◌, ◌%◌, ◌^◌, ℕ, zero, suc, ◌∙◌, ap, ap₂, take-suc, List, [], ◌∷◌, ◌++◌, length, take, get_or, refl, sym, arith, length-append}
use Rattle.std.specs.Prelude.{min}
use Rattle.std.proofs.lemmas.List.{get_or_at, take_at, take_all}
use Rattle.std.proofs.lemmas.List.Sums.{fold_more, fold-append}
use Rattle.job_ledger.specs.Records.{digits, header}
use Rattle.job_ledger.specs.Values.{decimal_value, with_digit}

pub value_more : (text : List ℕ) (i d : ℕ) → i < length text → (v : ℕ) → v ≡ min (decimal_value (take i text)) (2 ^ 64 - 1) → (r : ℕ) → r ≡ min (min (10 * v) (2 ^ 64 - 1) + (get_or text i d - 48)) (2 ^ 64 - 1) → r ≡ min (decimal_value (take (i + 1) text)) (2 ^ 64 - 1)
unfolding decimal_value
value_more text i d lt v e r h = rw (fold_more with_digit 0 text i d lt) (omega (arith, e, h))

pub digits_more : (k n : ℕ) → 0 < k → digits k n ≡ digits (k - 1) (n / 10) ++ (48 + n % 10) ∷ []
unfolding digits
digits_more zero n lt = absurd (omega arith)
digits_more (suc k) n lt = let e : suc k - 1 ≡ k = omega arith in rw e refl

pub digits_none : (k n : ℕ) → k ≡ 0 → digits k n ≡ []
unfolding digits
digits_none zero n e = refl
digits_none (suc k) n e = absurd (omega (arith, e))

pub digits_empty : (text : List ℕ) (n : ℕ) → length text < 1 → text ≡ digits (length text) n
digits_empty [] n lt = sym (digits_none 0 n refl)
digits_empty (d ∷ text) n lt = absurd (omega (arith, lt))

pub length-digits : (k n : ℕ) → length (digits k n) ≡ k
unfolding digits
length-digits zero n = refl
length-digits (suc k) n = omega (arith, length-append (digits k (n / 10)) ((48 + n % 10) ∷ []), length-digits k (n / 10))

pub value-digits : (k n : ℕ) → n < 10 ^ k → decimal_value (digits k n) ≡ n
unfolding digits decimal_value
value-digits zero n lt = omega (arith, lt)
value-digits (suc k) n lt =
    let small : n / 10 < 10 ^ k = omega (arith, lt) in
    fold-append with_digit 0 (digits k (n / 10)) ((48 + n % 10) ∷ []) ∙ rw (value-digits k (n / 10) small) (omega arith)

pub length-header : (n : ℕ) → length (header n) ≡ 14
length-header n = omega (arith, length-append (digits 13 n) (10 ∷ []), length-digits 13 n)

pub value-header : (text : List ℕ) (n : ℕ) → n < 10 ^ 13 → text ≡ header n → decimal_value (take 13 text) ≡ n
value-header text n lt e = ap (λ l. decimal_value (take 13 l)) e ∙ ap decimal_value (take_at (digits 13 n) (10 ∷ []) 13 (length-digits 13 n)) ∙ value-digits 13 n lt

-- a text and its last byte
pub snoc : (text : List ℕ) (k : ℕ) → length text ≡ k + 1 → text ≡ take k text ++ get_or text k 0 ∷ []
snoc text k long = sym (take_all (suc k) text (omega (arith, long))) ∙ take-suc text k 0 (omega (arith, long))

module _ (text : List ℕ) (n k : ℕ) (long : length text ≡ k + 1) where
  shape : digits (k + 1) n ≡ digits k (n / 10) ++ (48 + n % 10) ∷ []
  shape = digits_more (k + 1) n (omega arith) ∙ (let e : k + 1 - 1 ≡ k = omega arith in rw e refl)

  pub digits_front : text ≡ digits (length text) n → take k text ≡ digits k (n / 10)
  digits_front is = ap (take k) (is ∙ ap (λ m. digits m n) long ∙ shape) ∙ take_at (digits k (n / 10)) ((48 + n % 10) ∷ []) k (length-digits k (n / 10))

  pub digits_last : text ≡ digits (length text) n → get_or text k 0 ≡ 48 + n % 10
  digits_last is = ap (λ l. get_or l k 0) (is ∙ ap (λ m. digits m n) long ∙ shape) ∙ get_or_at (digits k (n / 10)) (48 + n % 10) [] 0 k (length-digits k (n / 10))

  pub digits_of_parts : take k text ≡ digits k (n / 10) → get_or text k 0 ≡ 48 + n % 10 → text ≡ digits (length text) n
  digits_of_parts front last = snoc text k long ∙ ap₂ (λ (l : List ℕ) (d : ℕ). l ++ d ∷ []) front last ∙ sym shape ∙ ap (λ m. digits m n) (sym long)

-- a header and its parts
pub header_front : (text : List ℕ) (n : ℕ) → text ≡ header n → take 13 text ≡ digits 13 n
header_front text n is = ap (take 13) is ∙ take_at (digits 13 n) (10 ∷ []) 13 (length-digits 13 n)

pub header_last : (text : List ℕ) (n : ℕ) → text ≡ header n → get_or text 13 0 ≡ 10
header_last text n is = ap (λ l. get_or l 13 0) is ∙ get_or_at (digits 13 n) 10 [] 0 13 (length-digits 13 n)

pub header_of_parts : (text : List ℕ) (n : ℕ) → length text ≡ 14 → take 13 text ≡ digits 13 n → get_or text 13 0 ≡ 10 → text ≡ header n
header_of_parts text n long front last = snoc text 13 long ∙ ap₂ (λ (l : List ℕ) (d : ℕ). l ++ d ∷ []) front last
