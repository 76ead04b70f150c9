use Rattle.std.proofs.Common.{◌<◌, ◌^◌, ◌∙◌, false, refl, arith}
use Rattle.plain_text.proofs.FrontLemmas.{front_is_decimal, front_is_signed, no_number_in_front}
use Rattle.plain_text.proofs.NumberLemmas.{signed_is_num}
use Rattle.plain_text.proofs.front.read_front.Goals as goal

pub returns-in-Some-clause-some : goal.returns-in-Some-clause-some
returns-in-Some-clause-some c =
    let begins = c.in-Some.ensures in
    let lt : c.in-Some.digit < 2 ^ 127 = omega arith in
    rw (c.from_parts.ensures) (
      signed_is_num false c.in-Some.digit lt,
      front_is_decimal c.args.text.now c.in-Some.rest.now c.in-Some.digit begins lt,
      begins.goes_on,
    )

pub returns-in-Some-short_num_in-clause-some : goal.returns-in-Some-short_num_in-clause-some
returns-in-Some-short_num_in-clause-some c =
    let (begins, sign, some) = c.in-Some-short_num_in.ensures in
    let lt : c.in-Some-short_num_in.size < 2 ^ 127 = omega arith in
    rw (c.from_parts-in-Some-short_num_in.ensures, sign) (
      signed_is_num _ c.in-Some-short_num_in.size lt,
      front_is_signed c.args.text.now c.in-Some-short_num_in.rest.now c.in-Some-short_num_in.size begins lt (λ h. some (sign ∙ h)),
      begins.goes_on,
    )

pub returns-in_err-place-clause-none : goal.returns-in_err-place-clause-none
returns-in_err-place-clause-none c _ =
    no_number_in_front c.args.text.now c.split_word.result.0.now c.split_word.result.1.now c.split_word.ensures
    (c.read_num.ensures.none (rw c.in_err-place.was refl))
