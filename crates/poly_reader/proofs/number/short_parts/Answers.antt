use Rattle.std.proofs.Common.{arith}
use Rattle.std.proofs.lemmas.List.{take_rest}
use Rattle.plain_text.proofs.DigitValues.{taken, all_taken}
use Rattle.poly_reader.proofs.ShortParts.{whole_sizes, both_sizes}
use Rattle.poly_reader.proofs.number.short_parts.Goals as goal

pub returns-then-end-word : goal.returns-then-end-word
returns-then-end-word c =
    let h = c.leading_digits-above.ensures in
    whole_sizes c.args.word.now c.leading_digits-above.result.0
    (all_taken _ _ _ h.value h.digits h.within c.if-end-eq0.false (omega arith))

pub returns : goal.returns
returns c =
    let h = c.leading_digits-above.ensures in let k = c.leading_digits-below.ensures in
    both_sizes c.args.word.now c.leading_digits-above.result.1 c.leading_digits-above.result.0
    c.leading_digits-below.result.0 (taken _ _ _ h.value h.digits h.within c.if-end-eq0.false) (omega arith)
    c.if-word-end-ne47.false
    (rw take_rest at (all_taken _ _ _ k.value k.digits k.within c.if-taken-eq0.false c.if-taken-rest.false))
