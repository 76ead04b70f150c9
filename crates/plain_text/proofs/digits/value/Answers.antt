use Rattle.std.proofs.Common.{refl}
use Rattle.plain_text.specs.Digits.{value_of}
use Rattle.plain_text.proofs.CappedValues.{value_more}
use Rattle.plain_text.proofs.digits.value.Goals as goal

pub digits-init : goal.digits-init
unfolding value_of
digits-init c = refl

pub digits-preserved : goal.digits-preserved
digits-preserved c = rw (c.with_digit-value.ensures, c.digits.invariant)
    (value_more c.args.digits.now c.digits.b-index 0 c.digits-test.true)
