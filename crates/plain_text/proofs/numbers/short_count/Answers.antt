use Rattle.plain_text.proofs.DigitValues.{all_taken, count_of_value}
use Rattle.plain_text.proofs.numbers.short_count.Goals as goal

pub returns : goal.returns
returns c =
    let h = c.leading_digits-value.ensures in
    count_of_value _ _ (all_taken _ _ _ h.value h.digits h.within c.if-taken-eq0.false c.if-taken-word.false)
