use Rattle.poly_reader.proofs.ScalingLemmas.{one-gcd_of, gcd_of-one}
use Rattle.poly_reader.proofs.scaling.gcd_of_sizes.Goals as goal

pub returns-then-a-eq1-clause-value : goal.returns-then-a-eq1-clause-value
returns-then-a-eq1-clause-value c = rw c.if-a-eq1.true (one-gcd_of c.args.b)

pub returns-then-b-eq1-clause-value : goal.returns-then-b-eq1-clause-value
returns-then-b-eq1-clause-value c = rw c.if-b-eq1.true (gcd_of-one c.args.a)
