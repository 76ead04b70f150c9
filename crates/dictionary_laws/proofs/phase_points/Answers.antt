use Rattle.dictionary_laws.proofs.PhasePoints.{phase_points}
use Rattle.dictionary_laws.proofs.phase_points.Goals as goal

pub returns : goal.returns
returns c = phase_points
