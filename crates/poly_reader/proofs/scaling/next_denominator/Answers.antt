use Rattle.poly_reader.proofs.ScalingLemmas.{next_some, next_none}
use Rattle.poly_reader.proofs.scaling.next_denominator.Goals as goal

pub returns-in-Some : goal.returns-in-Some
returns-in-Some c = λ n h.
    next_some n c.in-Some.q c.args.den c.lcm.result c.requires.den.positive (rw c.in-Some.is at h) c.lcm.ensures

pub returns-in-None : goal.returns-in-None
returns-in-None c = λ n h. next_none n c.args.den c.requires.den.positive (rw c.in-None.is at h)
