-- The sizes of a word of digits, maybe with a slash and more digits behind it.
use Rattle.std.proofs.Common.{◌≡◌, ◌<◌, ◌≤◌, ◌+◌, ℕ, true, false, Some, List, length, take, drop, get_or, refl, arith, length-take-le}
use Rattle.std.specs.List.{list_all, position_or_len}
use Rattle.std.proofs.lemmas.Bool.{ne_eqb}
use Rattle.std.proofs.lemmas.List.{take_all, get_or-take}
use Rattle.std.proofs.lemmas.List.Sums.{AllPass-from_list_all, position_or_len_is}
use Rattle.std.proofs.lemmas.List.Elements.{All-get_or, All-from_get_or}
use Rattle.std.proofs.lemmas.List.Folds.{list_any_at, list_any_none}
use Rattle.plain_text.specs.Digits.{is_digit}
use Rattle.plain_text.proofs.DigitValues.{IsValue, count_of_value}
use Rattle.poly_reader.specs.Grammar.{is_slash, numerator_of, denominator_of}

no_slash : (b : ℕ) → is_digit b ≡ true → is_slash b ≡ false
no_slash b h = ne_eqb b 47 (λ e. absurd (by (rw e at h)))
  where
    by : false ≡ true → ⊥
    by e = cc

digit_no_slash : (word : List ℕ) (n k : ℕ) → list_all is_digit (take n word) ≡ true → n ≤ length word → k < n
    → is_slash (get_or word k 0) ≡ false
digit_no_slash word n k h le lt =
    let all = All-get_or (λ b. is_digit b ≡ true) (take n word) k 0 (omega (arith, length-take-le n word le))
    (AllPass-from_list_all is_digit (take n word) h) in
    no_slash (get_or word k 0) (rw (get_or-take n word k 0 lt) at all)

-- ---- no slash

pub whole_sizes : (word : List ℕ) (v : ℕ) → IsValue v word
    → (numerator_of word ≡ Some v) × (denominator_of word ≡ Some 1)
whole_sizes word v h =
    let fails : (k : ℕ) → k < length word → is_slash (get_or word k 0) ≡ false =
    λ k lt. digit_no_slash word (length word) k (rw (take_all (length word) word (omega arith)) h.digits)
    (omega arith) lt in
    let at : position_or_len is_slash word ≡ length word =
    position_or_len_is is_slash word (length word) 0 (omega arith) fails (λ lt. absurd (omega arith)) in (
      rw (at, take_all (length word) word (omega arith)) (count_of_value v word h),
      rw (list_any_none is_slash word (All-from_get_or (λ b. is_slash b ≡ false) word 0 fails)) refl,
    )

-- ---- a slash behind n digits

pub both_sizes : (word : List ℕ) (n p q : ℕ) → IsValue p (take n word) → n < length word → get_or word n 0 ≡ 47
    → IsValue q (drop (n + 1) word) → (numerator_of word ≡ Some p) × (denominator_of word ≡ Some q)
both_sizes word n p q above lt slash below =
    let passes : is_slash (get_or word n 0) ≡ true = rw slash refl in
    let at : position_or_len is_slash word ≡ n =
    position_or_len_is is_slash word n 0 (omega arith)
    (λ k less. digit_no_slash word n k above.digits (omega arith) less) (λ less. passes) in (
      rw at (count_of_value p (take n word) above),
      rw (list_any_at is_slash word n 0 lt passes, at) (count_of_value q (drop (n + 1) word) below),
    )
