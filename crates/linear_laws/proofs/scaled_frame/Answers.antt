use Rattle.linear_laws.proofs.Multiples.{frame_scaled, frame_unscaled}
use Rattle.linear_laws.proofs.scaled_frame.Goals as goal

pub returns : goal.returns
returns c n fixed p D cs h = (λ f. frame_scaled p cs h f, λ f. frame_unscaled p D cs h f)
