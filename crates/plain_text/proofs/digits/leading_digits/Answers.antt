use Rattle.std.proofs.Common.{refl}
use Rattle.std.proofs.lemmas.List.Folds.{list_all_more}
use Rattle.std.proofs.lemmas.List.Sums.{fold_more}
use Rattle.plain_text.specs.Digits.{is_digit, value_of, with_digit_of}
use Rattle.plain_text.proofs.digits.leading_digits.Goals as goal

pub digits-init : goal.digits-init
unfolding value_of
digits-init c = record { value = refl; digits = refl }

pub digits-preserved : goal.digits-preserved
unfolding value_of
digits-preserved c =
    let text = c.args.text.now in let i = c.digits.i in
    record {
      value = rw (fold_more with_digit_of 0 text i 0 c.digits-test.true, ← c.digits.invariant.value)
          c.in-Some.ensures.1;
      digits = rw (list_all_more is_digit text i 0 c.digits-test.true, c.digits.invariant.digits) c.in-Some.ensures.0;
    }
