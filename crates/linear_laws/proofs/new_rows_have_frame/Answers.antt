use Rattle.linear_laws.proofs.FrameRows.{frame_from_new}
use Rattle.linear_laws.proofs.new_rows_have_frame.Goals as goal

pub returns : goal.returns
returns c = frame_from_new
