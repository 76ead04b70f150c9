use Rattle.countdown.proofs.Borrowing.{IsBorrowed}
use Rattle.countdown.proofs.digits.lower_digits.Given as goal

abbrev pub invariant-digits : goal.invariant-digits
invariant-digits l = IsBorrowed l.fn.digits l.digits l.i
