use Rattle.std.proofs.Common.{◌∙◌, [], ◌∷◌, sym}
use Rattle.plain_text.proofs.FrontLemmas.{one_digit}
use Rattle.plain_text.proofs.front.digit_in.Goals as goal

pub returns : goal.returns
returns c = record {
  digits = c.in_ok-digit.digit.now ∷ [];
  whole = c.in_ok-digit.ensures.cases.0;
  reads = rw c.saturating_sub.ensures (one_digit c.in_ok-digit.digit.now (sym c.is_digit_byte.ensures ∙ c.if-not-is_digit_byte.false));
  goes_on = c.goes_on.ensures.yes c.if-not-goes_on.false;
}
