use Rattle.linear_laws.proofs.PrimitiveAlong.{primitive_up_to_sign}
use Rattle.linear_laws.proofs.primitive_is_one_up_to_sign.Goals as goal

pub returns : goal.returns
returns c = primitive_up_to_sign
