use Rattle.std.proofs.Common.{arith}
use Rattle.countdown.proofs.Borrowing.{start_borrow, more_borrow, end_borrow, not_all}
use Rattle.countdown.proofs.digits.lower_digits.Goals as goal

pub digits-init : goal.digits-init
digits-init c = start_borrow c.args.digits.now

pub returns-then-digits-i-ne0 : goal.returns-then-digits-i-ne0
returns-then-digits-i-ne0 c =
    end_borrow _ c.digits.digits c.digits.i _ (omega arith) (omega arith) c.digits.invariant

pub digits-preserved : goal.digits-preserved
digits-preserved c = more_borrow _ c.digits.digits c.digits.i (omega arith) (omega arith) c.digits.invariant

pub returns : goal.returns
returns c = absurd (not_all _ c.digits.digits c.digits.i (omega arith) c.digits.invariant c.requires)
