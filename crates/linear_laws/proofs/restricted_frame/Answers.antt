use Rattle.linear_laws.proofs.FrameRows.{frame_restricted}
use Rattle.linear_laws.proofs.restricted_frame.Goals as goal

pub returns : goal.returns
returns c = frame_restricted
