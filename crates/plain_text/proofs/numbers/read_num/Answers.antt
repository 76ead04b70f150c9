use Rattle.std.proofs.Common.{◌≡◌, ◌∙◌, ◌<◌, ◌^◌, ℕ, List, Option, true, sym, ap, arith}
use Rattle.std.specs.Prelude.{option_map, unsigned_abs}
use Rattle.std.proofs.lemmas.Option.{none-some, same_Some}
use Rattle.plain_text.specs.Digits.{decimal_of, capped, is_negative, without_minus}
use Rattle.plain_text.proofs.ReadLemmas.{some_read, none_read}
use Rattle.plain_text.proofs.NumberLemmas.{reads_signed, is_signed, signed_is_num}
use Rattle.plain_text.proofs.numbers.read_num.Goals as goal

-- what is read of the digits behind the sign
same_digits : {read : Option ℕ} {digits : List ℕ} (word : List ℕ) → digits ≡ without_minus word → read ≡ option_map capped (decimal_of digits)
    → read ≡ option_map capped (decimal_of (without_minus word))
same_digits word e h = h ∙ ap (λ (l : List ℕ). option_map capped (decimal_of l)) e

pub returns-in_err-size : goal.returns-in_err-size
returns-in_err-size c =
    let digits = same_digits c.args.word.now c.split_minus-negative.ensures.rest c.read_decimal.ensures in
    rw c.from_residual.ensures (none_read (λ z num is.
    none-some (unsigned_abs z) (sym c.in_err-size.was ∙ digits ∙ (reads_signed c.args.word.now z num is).0)))

pub returns-then-size-ge-TOO_WIDE : goal.returns-then-size-ge-TOO_WIDE
returns-then-size-ge-TOO_WIDE c =
    let digits = same_digits c.args.word.now c.split_minus-negative.ensures.rest c.read_decimal.ensures in
    none_read (λ z num is.
    let e = same_Some c.in_ok-size.size (unsigned_abs z)
    (sym c.in_ok-size.was ∙ digits ∙ (reads_signed c.args.word.now z num is).0) in
    omega (arith, e, c.if-size-ge-TOO_WIDE.true, num))

pub returns-then-is_negative_zero : goal.returns-then-is_negative_zero
returns-then-is_negative_zero c =
    let digits = same_digits c.args.word.now c.split_minus-negative.ensures.rest c.read_decimal.ensures in
    let zero = c.is_negative_zero.ensures.yes c.if-is_negative_zero.true in
    none_read (λ z num is.
    let k = reads_signed c.args.word.now z num is in
    let e = same_Some c.in_ok-size.size (unsigned_abs z) (sym c.in_ok-size.was ∙ digits ∙ k.0) in
    let some = k.1 (sym c.split_minus-negative.ensures.sign ∙ zero.0) in
    omega (arith, e, some, zero.1))

pub returns : goal.returns
returns c =
    let digits = same_digits c.args.word.now c.split_minus-negative.ensures.rest c.read_decimal.ensures in
    let lt : c.in_ok-size.size < 2 ^ 127 = omega (arith, c.if-size-ge-TOO_WIDE.false) in
    let sign = c.split_minus-negative.ensures.sign in
    let some = λ (h : is_negative c.args.word.now ≡ true). c.is_negative_zero.ensures.no c.if-is_negative_zero.false (sign ∙ h) in
    rw (c.from_parts.ensures, sign)
    (some_read _ (signed_is_num (is_negative c.args.word.now) c.in_ok-size.size lt)
    (is_signed c.args.word.now c.in_ok-size.size (sym digits ∙ c.in_ok-size.was) lt some))
