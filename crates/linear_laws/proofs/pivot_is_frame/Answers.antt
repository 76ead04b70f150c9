use Rattle.linear_laws.proofs.Pivots.{frame_pivoted}
use Rattle.linear_laws.proofs.pivot_is_frame.Goals as goal

pub returns : goal.returns
returns c n fixed D g c' cs f h = frame_pivoted g c' cs f h
