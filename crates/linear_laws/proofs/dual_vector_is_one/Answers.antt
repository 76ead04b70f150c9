use Rattle.linear_laws.proofs.FrameRows.{dual_is_one}
use Rattle.linear_laws.proofs.dual_vector_is_one.Goals as goal

pub returns : goal.returns
returns c = dual_is_one
