use Rattle.linear_laws.proofs.PrimitiveAlong.{factor_divides}
use Rattle.linear_laws.proofs.primitive_factor_divides.Goals as goal

pub returns : goal.returns
returns c = factor_divides
