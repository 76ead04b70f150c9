use Rattle.std.proofs.Common.{◌<◌, ◌^◌, ◌-◌, ◌∙◌, false, sym, arith}
use Rattle.plain_text.proofs.FrontLemmas.{digit_is_number}
use Rattle.plain_text.proofs.NumberLemmas.{signed_is_num}
use Rattle.plain_text.proofs.front.front_digit.Goals as goal

pub returns-clause-some : goal.returns-clause-some
returns-clause-some c =
    let d = c.in_ok-digit.digit.now in
    let lt : d - 48 < 2 ^ 127 = omega arith in
    rw (c.from_parts.ensures, c.saturating_sub.ensures) (
      signed_is_num false (d - 48) lt,
      c.in_ok-digit.ensures.cases.0 ∙ digit_is_number d c.in_ok-digit.rest.now (sym c.is_digit_byte.ensures ∙ c.if-not-is_digit_byte.false) lt,
    )
