use Rattle.std.proofs.Common.{◌≡◌, ◌∙◌, ◌++◌, ℕ, List, false, take, sym, ap, take-append-drop}
use Rattle.plain_text.specs.Digits.{leads_with_zero}
use Rattle.plain_text.proofs.DigitValues.{taken, count_of_value}
use Rattle.plain_text.proofs.NumberLemmas.{decimal_of_count}
use Rattle.plain_text.proofs.front.digits_in.Goals as goal

pub returns : goal.returns
returns c =
    let h = c.leading_digits-value.ensures in
    let n = c.leading_digits-value.result.1 in
    let text = c.args.text.now in
    let plain : leads_with_zero (take n text) ≡ false =
    ap leads_with_zero (sym c.split_at.ensures.front) ∙ sym c.leads_with_zero.ensures ∙ c.if-leads_with_zero.false in
    let read = count_of_value _ _ (taken _ n text h.value h.digits h.within c.if-taken-eq0.false) in
    record {
      digits = take n text;
      whole = sym (take-append-drop n text) ∙ ap (λ (l : List ℕ). take n text ++ l) (sym c.split_at.ensures.back);
      reads = decimal_of_count (take n text) plain ∙ read;
      goes_on = c.goes_on.ensures.yes c.if-not-goes_on.false;
    }
