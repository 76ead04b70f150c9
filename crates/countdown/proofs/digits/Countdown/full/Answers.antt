use Rattle.std.proofs.Common.{lit≤}
use Rattle.countdown.specs.Digits.{enough}
use Rattle.countdown.proofs.digits.Countdown.full.Goals as goal

pub returns : goal.returns
unfolding enough
returns c = lit≤ tt
