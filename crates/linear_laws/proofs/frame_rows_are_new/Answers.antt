use Rattle.std.proofs.Common.{[]}
use Rattle.linear_laws.proofs.FrameRows.{new_from_frame, length_of_frame}
use Rattle.linear_laws.proofs.frame_rows_are_new.Goals as goal

pub returns : goal.returns
returns c n D cs f = (new_from_frame n [] D cs f, length_of_frame n D cs f)
