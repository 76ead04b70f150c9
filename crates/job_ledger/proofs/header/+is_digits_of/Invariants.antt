use Rattle.std.proofs.Common.{length}
use Rattle.job_ledger.proofs.header.+is_digits_of.Given as goal

abbrev pub decreases-is_digits_of : goal.decreases-is_digits_of
decreases-is_digits_of l = length l.text.now
